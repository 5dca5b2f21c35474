-- What the script of a load is read as.
use Rattle.std.specs.Prelude.{◌≡◌, ℕ, zero, suc, ◌+◌, ◌≤◌, List, [], ◌∷◌, Ok}
use Rattle.kmn_base.specs.declared.events.Event.TheVariants as event
use Rattle.rule_model.specs.Transcript.{events_of}
use Rattle.rule_model.specs.declared.script.Entry.{Entry}
use Rattle.rule_model.specs.declared.script.Entry.TheVariants.{Act}
use Rattle.load_maker.specs.Loads.{load_script}
use Rattle.kmn_base.specs.declared.limits.TheConstants.{LOAD_RULES}
use Rattle.play_script.specs.Entries.{entries}
use Rattle.load_maker.specs.Keyboards.{press_a, press_space, load_events}

-- the entries of `count` presses of K_A from a line on, and of one press of K_SPACE
abbrev pub press_entries : ℕ → ℕ → List Entry
press_entries line zero = Act line (event.Key press_space) ∷ []
press_entries line (suc count) = Act line (event.Key press_a) ∷ press_entries (line + 1) count

-- the script of a load is read as its presses, whatever names the keyboard has for custom keys
abbrev pub ScriptsAreRead : Type 0
ScriptsAreRead =
    (n : ℕ) (dictionary : List (List ℕ)) → n ≤ LOAD_RULES
    → (entries dictionary (load_script n) ≡ Ok (press_entries 1 (suc n))) × (events_of (press_entries 1 (suc n)) ≡ load_events n)
