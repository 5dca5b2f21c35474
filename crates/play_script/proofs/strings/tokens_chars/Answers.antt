use Rattle.std.proofs.Common.{◌≡◌, Some, sym, ap, length, ◌∙◌, arith}
use Rattle.play_script.specs.Strings.{string_token}
use Rattle.play_script.proofs.StringLaws.{shorter, taken_on}
use Rattle.play_script.proofs.strings.tokens_chars.Goals as goal

pub loop-rest-smaller : goal.loop-rest-smaller
loop-rest-smaller c =
    let token : Some (c.in-Some.characters, c.in-Some.size) ≡ string_token c.loop-rest.rest.now = sym c.in-Some.is ∙ c.in_ok-characters.ensures in
    let short = shorter c.in-Some.size c.loop-rest.rest.now c.in-Some.characters token in
    omega (arith, short, c.without_blanks-rest-in-Some.ensures.within, ap length c.behind.ensures)

pub loop-rest-preserved : goal.loop-rest-preserved
loop-rest-preserved c =
    let token : Some (c.in-Some.characters, c.in-Some.size) ≡ string_token c.loop-rest.rest.now = sym c.in-Some.is ∙ c.in_ok-characters.ensures in
    record {
      read = taken_on c.loop-rest.all c.in-Some.characters c.append.new.self c.in-Some.size c.loop-rest.rest.now c.behind.result.now c.without_blanks-rest-in-Some.result.now _ c.loop-rest.invariant.tight token
          c.in_ok-append-in-Some.ensures c.behind.ensures c.without_blanks-rest-in-Some.ensures.is c.loop-rest.invariant.read;
      tight = c.without_blanks-rest-in-Some.ensures.tight;
    }
