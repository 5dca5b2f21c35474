-- Work with a value for its value and one for its reason: it makes the same reads, and never is refused. If both are endings, a run does it
-- if it does the work and prints the ending.
use Rattle.std.proofs.Common.{◌≡◌, inl, ℕ, IsTrue, List, [], ◌∷◌, ◌++◌, map, Option, Some, None, Result, Ok, Err, refl, sym, ap, ◌∙◌, subst, append-nil}
use Rattle.std.specs.Prelude.{option_map, option_and_then}
use Rattle.std.specs.Option.{option_map_or}
use Rattle.kmn_outside.specs.Outside.{Files}
use Rattle.keyman_words.specs.Seen.{FolderView, SinkView, seen_folder}
use Rattle.keyman_words.specs.Tells.{Tells}
use Rattle.keyman_words.specs.declared.reason.Reason.{Reason}
use Rattle.keyman_words.specs.declared.status.Status.{Status}
use Rattle.keyman_run.specs.Asked.{Ask, read_of, answered}
use Rattle.keyman_run.specs.Endings.{Ending, conclusion, ends, file_asks}
use Rattle.keyman_run.specs.Run.{Does, HasBegunToRead, HasFailedToRead, HasRead, HasWorked, Written}
use Rattle.keyman_run.specs.Steps.{Gives, itself}
use Rattle.keyman_run.specs.declared.preparing.Stop.{Stop}
use Rattle.keyman_run.specs.declared.preparing.Stop.TheVariants as stop
use Rattle.keyman_run.specs.Work.{Reading, Work, reading_of, reads, comes_to}
use Rattle.keyman_run.specs.Work.Work.{Give, Refuse, Read}
use Rattle.keyman_run.proofs.AskedLaws.{first_all}
use Rattle.keyman_run.proofs.RunLaws.{does_told}
use Rattle.check_run.specs.Orders.{concluded}
use Rattle.check_run.specs.Printed.{PrintsStopped, stopped_ending}

module _ {A B : Type 0} (good : A → B) (bad : Reason → B) where
  -- the value of a result
  abbrev pub value_of : Result A Reason → B
  value_of (Ok value) = good value
  value_of (Err why) = bad why

  abbrev pub comes_so : Option (Result A Reason) → Option (Result B Reason)
  comes_so found = option_map (λ (read : Result A Reason). Ok (value_of read)) found

  found_reads : (files : Files) (limit : ℕ) (next : Reading → Work A) (found : Option (List ℕ))
      → ((reading : Reading) → reads files (concluded good bad (next reading)) ≡ reads files (next reading))
      → option_map_or (λ bytes. reads files (concluded good bad (next (reading_of limit bytes)))) found []
      ≡ option_map_or (λ bytes. reads files (next (reading_of limit bytes))) found []
  found_reads files limit next None all = refl
  found_reads files limit next (Some bytes) all = all (reading_of limit bytes)

  pub reads_concluded : (files : Files) (work : Work A) → reads files (concluded good bad work) ≡ reads files work
  reads_concluded files (Give value) = refl
  reads_concluded files (Refuse why) = refl
  reads_concluded files (Read name limit next) = ap (λ asks. read_of name ∷ asks) (found_reads files limit next (files name) (λ reading. reads_concluded files (next reading)))

  found_comes : (files : Files) (limit : ℕ) (next : Reading → Work A) (found : Option (List ℕ))
      → ((reading : Reading) → comes_to files (concluded good bad (next reading)) ≡ comes_so (comes_to files (next reading)))
      → option_and_then (λ bytes. comes_to files (concluded good bad (next (reading_of limit bytes)))) found
      ≡ comes_so (option_and_then (λ bytes. comes_to files (next (reading_of limit bytes))) found)
  found_comes files limit next None all = refl
  found_comes files limit next (Some bytes) all = all (reading_of limit bytes)

  pub comes_concluded : (files : Files) (work : Work A) → comes_to files (concluded good bad work) ≡ comes_so (comes_to files work)
  comes_concluded files (Give value) = refl
  comes_concluded files (Refuse why) = refl
  comes_concluded files (Read name limit next) = found_comes files limit next (files name) (λ reading. comes_concluded files (next reading))

  module _ {F : Type 0} (work : Work A) (folders : FolderView F) (folder after : F) where
    same_reads : reads (folders.files folder) work ≡ reads (folders.files folder) (concluded good bad work)
    same_reads = sym (reads_concluded (folders.files folder) work)

    came_so : (read : Result A Reason) → (comes_to (folders.files folder) work ≡ Some read) × HasRead (reads (folders.files folder) work) (seen_folder folders folder) (seen_folder folders after)
        → (comes_to (folders.files folder) (concluded good bad work) ≡ Some (Ok (value_of read))) × HasRead (reads (folders.files folder) (concluded good bad work)) (seen_folder folders folder) (seen_folder folders after)
    came_so read h = (
      comes_concluded (folders.files folder) work ∙ ap comes_so h.0,
      subst (λ (asks : List Ask). HasRead asks (seen_folder folders folder) (seen_folder folders after)) same_reads h.1,
    )

    -- if work has its value, so has this work
    pub gives_good : (value : A) → Gives itself work folders folder after (Ok value) → Gives itself (concluded good bad work) folders folder after (Ok (good value))
    gives_good value g = record { counts = g.counts; told = g.told; gives = λ told. came_so (Ok value) (g.gives told) }

    -- if work is refused, this work has the value for the reason
    pub gives_bad : (why : Reason) → Gives {A = A} itself work folders folder after (Err (stop.Refused why)) → Gives itself (concluded good bad work) folders folder after (Ok (bad why))
    gives_bad why g = record { counts = g.counts; told = g.told; gives = λ told. came_so (Err why) (g.gives told) }

    -- if a read fails, this work stops in the same way
    pub gives_unread : Gives {A = A} itself work folders folder after (Err stop.ReadFault) → Gives {A = B} itself (concluded good bad work) folders folder after (Err stop.ReadFault)
    gives_unread g = record {
      counts = g.counts;
      told = g.told;
      gives = λ told. subst (λ (asks : List Ask). HasFailedToRead asks (seen_folder folders folder) (seen_folder folders after)) same_reads (g.gives told);
    }

    -- so it does if an allocation fails
    pub gives_unmade : Gives {A = A} itself work folders folder after (Err stop.Memory) → Gives {A = B} itself (concluded good bad work) folders folder after (Err stop.Memory)
    gives_unmade g = record {
      counts = g.counts;
      told = g.told;
      gives = λ told. subst (λ (asks : List Ask). HasBegunToRead asks (seen_folder folders folder) (seen_folder folders after)) same_reads (g.gives told);
    }

    -- if an allocation fails when work has its value, this work stops: all of its reads were made
    pub gives_lost : (value : A) → Gives itself work folders folder after (Ok value) → Gives {A = B} itself (concluded good bad work) folders folder after (Err stop.Memory)
    gives_lost value g = record {
      counts = g.counts;
      told = g.told;
      gives = λ told.
          let h = came_so (Ok value) (g.gives told) in
          record { asked = first_all (reads (folders.files folder) (concluded good bad work)) (folders.calls folder) (folders.calls after) h.1.asked; files = h.1.files };
    }

module _ {A : Type 0} (good : A → Ending) (bad : Reason → Ending) where
  pub ends_concluded : (files : Files) (work : Work A) (read : Result A Reason) → comes_to files work ≡ Some read → ends files (concluded good bad work) ≡ Some (value_of good bad read)
  ends_concluded files work read is = ap (option_map conclusion) (comes_concluded good bad files work ∙ ap (comes_so good bad) is)

  module _ {F S : Type 0} (work : Work A) (folders : FolderView F) (folder after : F) (sinks : SinkView S) (out out_after : S) (how : Status) where
    -- a run that has a result and prints its ending, which writes no file
    pub concludes_told : (read : Result A Reason) → (value_of good bad read).file ≡ None → folders.faults after ≡ folders.faults folder → folders.told after ≡ folders.told folder
        → (IsTrue (folders.told folder) → (comes_to (folders.files folder) work ≡ Some read) × HasRead (reads (folders.files folder) work) (seen_folder folders folder) (seen_folder folders after))
        → Tells (value_of good bad read).status (value_of good bad read).printed sinks out out_after how → Does (concluded good bad work) folders folder after sinks out out_after how
    concludes_told read unwritten faults told has tells =
        does_told (concluded good bad work) (value_of good bad read) folders folder after sinks out out_after how faults told
        (λ told_folder.
        let files : Files = folders.files folder in
        let h = has told_folder in
        let asks : reads files work ≡ reads files (concluded good bad work) ++ file_asks (value_of good bad read).file =
        sym (reads_concluded good bad files work) ∙ sym (append-nil (reads files (concluded good bad work))) ∙ ap (λ file. reads files (concluded good bad work) ++ file_asks file) (sym unwritten) in (
          ends_concluded files work read h.0,
          record {
            asked = h.1.asked ∙ ap (λ asks. folders.calls folder ++ map answered asks) asks;
            files = subst (λ file. Written file (folders.files folder) (folders.files after)) (sym unwritten) h.1.files;
          },
        ))
        tells

module _ {F S A : Type 0} (good : A → Ending) (file : List ℕ) (work : Work A) (folders : FolderView F) (folder after : F) (sinks : SinkView S) (out out_after : S) (how : Status) where
  -- a run that stops for a reason and prints its text
  pub concludes_stopped : (s : Stop) → Gives itself work folders folder after (Err s) → PrintsStopped file s sinks out out_after how
      → Does (concluded good (stopped_ending file) work) folders folder after sinks out out_after how
  concludes_stopped (stop.Refused why) g tells =
      concludes_told good (stopped_ending file) work folders folder after sinks out out_after how (Err why) refl g.counts g.told g.gives tells
  concludes_stopped stop.ReadFault g tells =
      subst (λ (o : S). Does (concluded good (stopped_ending file) work) folders folder after sinks out o how) (sym tells.1)
      (subst (λ (s : Status). Does (concluded good (stopped_ending file) work) folders folder after sinks out out s) (sym tells.0)
      (record {
        form = λ is. cc;
        counts = (g.counts, refl);
        told = (g.told, refl);
        leaves = λ told. (
          g.counts,
          subst (λ (asks : List Ask). HasFailedToRead asks (seen_folder folders folder) (seen_folder folders after)) (sym (reads_concluded good (stopped_ending file) (folders.files folder) work)) (g.gives told),
          λ told_sink. refl,
        );
      }))
  concludes_stopped stop.Memory g tells =
      subst (λ (o : S). Does (concluded good (stopped_ending file) work) folders folder after sinks out o how) (sym tells.1)
      (subst (λ (s : Status). Does (concluded good (stopped_ending file) work) folders folder after sinks out out s) (sym tells.0)
      (record {
        form = λ is. cc;
        counts = (g.counts, refl);
        told = (g.told, refl);
        leaves = λ told.
            inl (
              subst (λ (asks : List Ask). HasBegunToRead asks (seen_folder folders folder) (seen_folder folders after)) (sym (reads_concluded good (stopped_ending file) (folders.files folder) work)) (g.gives told),
              λ told_sink. refl,
            );
      }))
