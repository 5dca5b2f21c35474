-- A run of arguments, from the run of the command that they request.
use Rattle.std.proofs.Common.{◌≡◌, ℕ, IsTrue, List, Option, Some, None, refl, sym, ap, subst, append-nil}
use Rattle.std.specs.Prelude.{is_some}
use Rattle.keyman_words.specs.declared.status.Status.{Status}
use Rattle.keyman_words.specs.declared.status.Status.TheVariants as status
use Rattle.keyman_words.specs.Command.{Request, request_of}
use Rattle.keyman_run.specs.Endings.{Ending, ends, words_ending}
use Rattle.keyman_run.specs.Orders.{work_of}
use Rattle.keyman_run.specs.Run.{Does, FileMeans, Leaves}
use Rattle.keyman_run.specs.Runs.{Runs}
use Rattle.keyman_words.specs.Seen.{FolderView, SinkView, seen_folder, seen_sink}
use Rattle.keyman_run.specs.Work.{Work, reads}
use Rattle.keyman_run.proofs.LoadLaws.{is_asked}
use Rattle.keyman_run.proofs.MeaningLaws.{asks_by, ends_as_wanted}
use Rattle.keyman_run.proofs.ShadowLaws.{fields_are_alone, lines_are_dead}

-- if arguments request a command and a run does it, the run satisfies `Runs`
pub runs_asked : {F S : Type 0} (said : List (List ℕ)) (request : Request) (folders : FolderView F) (folder after : F) (sinks : SinkView S) (out out_after : S) (how : Status)
    → Some request ≡ request_of said → Does (work_of (Some request)) folders folder after sinks out out_after how
    → (IsTrue (folders.told folder) → FileMeans (seen_folder folders folder) (seen_folder folders after) (Some request)) → Runs said folders folder after sinks out out_after how
runs_asked said request folders folder after sinks out out_after how is does means =
    let d : Does (work_of (request_of said)) folders folder after sinks out out_after how
    = subst (λ (r : Option Request). Does (work_of r) folders folder after sinks out out_after how) is does in
    let work : Work Ending = work_of (request_of said) in
    record {
      words = is_asked said request how is d.form;
      counts = d.counts;
      told = d.told;
      asked = λ told.
          asks_by (reads (folders.files folder) work) (ends (folders.files folder) work) (seen_folder folders folder) (seen_folder folders after) (seen_sink sinks out) (seen_sink sinks out_after) how (d.leaves told);
      leaves = d.leaves;
      complete = λ told no_folder no_sink.
          ends_as_wanted (reads (folders.files folder) work) (ends (folders.files folder) work) (seen_folder folders folder) (seen_folder folders after) (seen_sink sinks out) (seen_sink sinks out_after) how (d.leaves told) no_folder no_sink;
      means = λ told. subst (λ (r : Option Request). FileMeans (seen_folder folders folder) (seen_folder folders after) r) is (means told);
      shadows = λ told. lines_are_dead (folders.files folder) (request_of said);
      hosts = λ told. fields_are_alone (folders.files folder) (request_of said);
    }

-- if arguments make no request, a run that ends immediately satisfies `Runs`
pub runs_nothing : {F S : Type 0} (said : List (List ℕ)) (folders : FolderView F) (folder : F) (sinks : SinkView S) (out : S) → None ≡ request_of said
    → Runs said folders folder folder sinks out out status.Words
runs_nothing said folders folder sinks out is =
    let leaves : IsTrue (folders.told folder) → Leaves (work_of (request_of said)) (seen_folder folders folder) (seen_folder folders folder) (seen_sink sinks out) (seen_sink sinks out) status.Words
    = λ told.
    subst (λ (r : Option Request). Leaves (work_of r) (seen_folder folders folder) (seen_folder folders folder) (seen_sink sinks out) (seen_sink sinks out) status.Words) is (record {
      ending = words_ending;
      is = refl;
      how_is = refl;
      worked = record { asked = sym (append-nil (folders.calls folder)); files = λ name. refl };
      printed = λ told_sink. sym (append-nil (sinks.written out));
    }) in
    let work : Work Ending = work_of (request_of said) in
    record {
      words = (λ how. ap is_some (sym is), λ none. refl);
      counts = (refl, refl);
      told = (refl, refl);
      asked = λ told.
          asks_by (reads (folders.files folder) work) (ends (folders.files folder) work) (seen_folder folders folder) (seen_folder folders folder) (seen_sink sinks out) (seen_sink sinks out) status.Words (leaves told);
      leaves = leaves;
      complete = λ told no_folder no_sink.
          ends_as_wanted (reads (folders.files folder) work) (ends (folders.files folder) work) (seen_folder folders folder) (seen_folder folders folder) (seen_sink sinks out) (seen_sink sinks out) status.Words (leaves told) no_folder no_sink;
      means = λ told. subst (λ (r : Option Request). FileMeans (seen_folder folders folder) (seen_folder folders folder) r) is tt;
      shadows = λ told. lines_are_dead (folders.files folder) (request_of said);
      hosts = λ told. fields_are_alone (folders.files folder) (request_of said);
    }
