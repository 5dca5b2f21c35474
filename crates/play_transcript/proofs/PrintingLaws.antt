-- Lists that are appended in parts.
use Rattle.std.proofs.Common.{◌≡◌, ℕ, List, [], ◌++◌, take, drop, Result, Ok, Err, subst, refl, sym, ◌∙◌, ap, append_assoc, append-nil}
use Rattle.std.proofs.lemmas.List.{take-append-drop}
use Rattle.std.specs.Prelude.{IsErrAnd}
use Rattle.kmn_outside.specs.Outside.{Puts}
use Rattle.kmn_outside.specs.declared.traits.WriteError.{WriteError}
use Rattle.kmn_outside.specs.declared.traits.WriteError.TheVariants as write
use Rattle.play_transcript.specs.Printing.{AppendsBut, IsBegun, Prints}

-- printing no bytes does not change the sink
pub nothing_put : (before : List ℕ) → before ≡ before ++ []
nothing_put before = sym (append-nil before)

-- at first the whole list remains to be appended
pub none_appended : {X : Type 0} (before wanted : List X) → AppendsBut wanted before before wanted
none_appended before wanted = record { done = []; parts = refl; appended = sym (append-nil before) }

pub none_begun : {X : Type 0} (before wanted : List X) → IsBegun before before wanted
none_begun before wanted = record { rest = wanted; begun = none_appended before wanted }

-- if the first part of the rest is appended, the remaining rest is shorter by it
pub appended_more : {X : Type 0} (part rest before middle after wanted : List X) → AppendsBut (part ++ rest) before middle wanted → after ≡ middle ++ part → AppendsBut rest before after wanted
appended_more part rest before middle after wanted h is = record {
  done = h.done ++ part;
  parts = h.parts ∙ sym (append_assoc h.done part rest);
  appended = is ∙ ap (λ front. front ++ part) h.appended ∙ append_assoc before h.done part;
}

-- if the whole rest is appended, the whole list is appended
pub appended_all : {X : Type 0} (rest before middle after wanted : List X) → AppendsBut rest before middle wanted → after ≡ middle ++ rest → after ≡ before ++ wanted
appended_all rest before middle after wanted h is =
    is ∙ ap (λ front. front ++ rest) h.appended ∙ append_assoc before h.done rest ∙ ap (λ list. before ++ list) (sym h.parts)

-- if the beginning of the first part of the rest is appended, the beginning of the list is appended
pub begun_within : {X : Type 0} (part rest before middle after wanted : List X) → AppendsBut (part ++ rest) before middle wanted → IsBegun middle after part → IsBegun before after wanted
begun_within part rest before middle after wanted h begun = record {
  rest = begun.rest ++ rest;
  begun = record {
    done = h.done ++ begun.begun.done;
    parts = h.parts ∙ ap (λ list. h.done ++ (list ++ rest)) begun.begun.parts ∙ ap (λ list. h.done ++ list) (append_assoc begun.begun.done begun.rest rest)
        ∙ sym (append_assoc h.done begun.begun.done (begun.rest ++ rest));
    appended = begun.begun.appended ∙ ap (λ front. front ++ begun.begun.done) h.appended ∙ append_assoc before h.done begun.begun.done;
  };
}

-- if the beginning of a list is appended, it is also the beginning of that list followed by another
pub begun_front : {X : Type 0} (before after part more : List X) → IsBegun before after part → IsBegun before after (part ++ more)
begun_front before after part more begun = begun_within part more before before after (part ++ more) (none_appended before (part ++ more)) begun

-- if a list is appended and then the beginning of another, it is the beginning of both lists together
pub begun_behind : {X : Type 0} (before middle after part more : List X) → middle ≡ before ++ part → IsBegun middle after more → IsBegun before after (part ++ more)
begun_behind before middle after part more is begun = record {
  rest = begun.rest;
  begun = record {
    done = part ++ begun.begun.done;
    parts = ap (λ list. part ++ list) begun.begun.parts ∙ sym (append_assoc part begun.begun.done begun.rest);
    appended = begun.begun.appended ∙ ap (λ front. front ++ begun.begun.done) is ∙ append_assoc before part begun.begun.done;
  };
}

-- if the sink accepts some bytes of the rest, the bytes after these remain to be appended
pub put_on : (start line before after rest : List ℕ) (count : ℕ) → Puts before after rest (Ok count) → AppendsBut rest start before line → AppendsBut (drop count rest) start after line
put_on start line before after rest count puts h =
    appended_more (take count rest) (drop count rest) start before after line
    (record { done = h.done; parts = h.parts ∙ ap (λ list. h.done ++ list) (sym (take-append-drop count rest)); appended = h.appended }) puts

-- if the sink fails, the beginning of the line is appended
pub put_stops : (start line before after rest : List ℕ) (error : WriteError) → Puts before after rest (Err error) → AppendsBut rest start before line → IsBegun start after line
put_stops start line before after rest write.Failed puts h = record { rest = drop puts.0 rest; begun = put_on start line before after rest puts.0 puts.1 h }
put_stops start line before after rest write.Memory puts h = record { rest = rest; begun = record { done = h.done; parts = h.parts; appended = puts ∙ h.appended } }

-- if the rest is printed, or only its beginning because printing failed, the same is true for the whole
pub prints_rest : {A E : Type 0} (rest start before after whole : List ℕ) (result : Result A E) → AppendsBut rest start before whole → Prints before after rest result → Prints start after whole result
prints_rest rest start before after whole (Ok x) h prints = appended_all rest start before after whole h prints
prints_rest rest start before after whole (Err error) h begun =
    begun_within rest [] start before after whole (subst (λ (list : List ℕ). AppendsBut list start before whole) (sym (append-nil rest)) h) begun

-- if more is printed after a line, or only its beginning because printing failed, the same is true for both together
pub prints_behind : {A E : Type 0} (line more before middle after : List ℕ) (result : Result A E) → middle ≡ before ++ line → Prints middle after more result → Prints before after (line ++ more) result
prints_behind line more before middle after (Ok x) is prints = prints ∙ ap (λ front. front ++ more) is ∙ append_assoc before line more
prints_behind line more before middle after (Err error) is begun = begun_behind before middle after line more is begun

-- if the result is an error and the beginning of the bytes was appended, the bytes were printed as `Prints` states
pub fault_prints : {A : Type 0} (before after wanted : List ℕ) (error : WriteError) (result : Result A WriteError) → IsErrAnd result (λ given. given ≡ error) → IsBegun before after wanted
    → Prints before after wanted result
fault_prints before after wanted error (Ok x) is begun = absurd is
fault_prints before after wanted error (Err given) is begun = begun

pub ruleset faults = (fault_prints, none_begun)
