use Rattle.std.proofs.Common.{ℕ, ap, ◌∙◌}
use Rattle.decompile_text.specs.Pages.{with_text}
use Rattle.decompile_text.specs.Texts.{version_line}
use Rattle.decompile_text.proofs.FrontPuts.{front_puts}
use Rattle.decompile_text.proofs.writing.put_front.Goals as goal

pub returns : goal.returns
returns c =
    front_puts c.args.file.now c.args.front.now c.args.free.now c.as_slice-keys.result.now c.key_place-place.result c.name_at-first.result.now c.name_at-second.result.now
    c.args.page.now c.put_version.new.page c.put_mark_store.new.page c.put_key_store.new.page
    c.requires.front c.requires.free c.name_at-first.ensures c.key_place-place.ensures c.name_at-second.ensures c.as_slice-keys.ensures.value
    (c.in_ok-put_version.ensures ∙ ap (λ (version : ℕ). with_text c.args.page.now (version_line version)) c.version.ensures) c.in_ok-put_mark_store.ensures c.in_ok-put_key_store.ensures
