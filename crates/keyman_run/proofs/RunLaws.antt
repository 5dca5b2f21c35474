-- A run in steps: if a step and the work after it meet their contracts, both together do.
use Rattle.std.proofs.Common.{◌≡◌, ◌≢◌, inl, inr, ℕ, false, IsTrue, List, [], ◌∷◌, ◌++◌, map, Option, Some, Result, Ok, Err, refl, sym, ◌∙◌, ap, subst, append_assoc, append-nil}
use Rattle.std.specs.Prelude.{option_map}
use Rattle.std.specs.Result.{IsErrAnd}
use Rattle.kmn_outside.specs.Outside.{Files, Rose, SameFiles, WriteCounts, Writes}
use Rattle.kmn_outside.specs.declared.traits.WriteError.{WriteError}
use Rattle.kmn_outside.specs.declared.traits.WriteError.TheVariants as write
use Rattle.keyman_run.specs.declared.preparing.Stop.{Stop}
use Rattle.keyman_run.specs.declared.preparing.Stop.TheVariants as stop
use Rattle.keyman_words.specs.declared.reason.Reason.{Reason}
use Rattle.keyman_words.specs.declared.status.Status.{Status}
use Rattle.keyman_words.specs.declared.status.Status.TheVariants as status
use Rattle.keyman_run.specs.Asked.{Ask, write_of, answered, failed}
use Rattle.keyman_run.specs.Endings.{Ending, conclusion, refused_ending, ends, file_asks}
use Rattle.keyman_run.specs.Run.{Written, HasRead, HasBegunToRead, HasFailedToRead, HasWorked, IsEnded, IsSpoilt, IsCutOff, LeavesBy, FaultCounts, Does}
use Rattle.keyman_words.specs.Seen.{FolderView, SinkView, FolderState, SinkState, seen_folder, seen_sink}
use Rattle.keyman_words.specs.Tells.{SinkCounts, PrintsBy, Tells, write_status}
use Rattle.keyman_run.specs.Steps.{StopCounts, GivesBy, Gives, PrintsStop}
use Rattle.keyman_run.specs.Work.{Work, and_then, reads, comes_to}
use Rattle.keyman_run.specs.Work.Work.{Give, Refuse}
use Rattle.keyman_run.proofs.AskedLaws.{first_front, until_front, joined, first_behind, until_behind, all_behind, first_none}
use Rattle.keyman_run.proofs.WorkLaws.{reads_behind, reads_and_then, reads_on, comes_on, reads_refused, comes_refused}

module _ (wanted more : List Ask) (before middle after : FolderState) (h : HasRead wanted before middle) where
  same_files : middle.files ≡ before.files
  same_files i name = h.files name i

  same_behind : SameFiles middle.files after.files → SameFiles before.files after.files
  same_behind same name = same name ∙ h.files name

  worked_behind : (ending : Ending) → HasWorked more ending middle after → HasWorked (wanted ++ more) ending before after
  worked_behind ending worked = record {
    asked = all_behind wanted (more ++ file_asks ending.file) before.calls middle.calls after.calls h.asked worked.asked
        ∙ ap (λ asks. before.calls ++ map answered asks) (sym (append_assoc wanted more (file_asks ending.file)));
    files = subst (λ (files : Files). Written ending.file files after.files) same_files worked.files;
  }

  -- if all reads of a first part of work were made, the effects of more work after it are the effects of the whole work
  pub gives_by_behind : {A B : Type 0} (seen : A → B) (end : Option (Result B Reason)) (result : Result A Stop) → GivesBy seen more end middle after result → GivesBy seen (wanted ++ more) end before after result
  gives_by_behind seen end (Ok value) g = (g.0, record { asked = all_behind wanted more before.calls middle.calls after.calls h.asked g.1.asked; files = same_behind g.1.files })
  gives_by_behind seen end (Err (stop.Refused why)) g = (g.0, record { asked = all_behind wanted more before.calls middle.calls after.calls h.asked g.1.asked; files = same_behind g.1.files })
  gives_by_behind seen end (Err stop.ReadFault) g = record { asked = until_behind wanted more before.calls middle.calls after.calls false h.asked g.asked; files = same_behind g.files }
  gives_by_behind seen end (Err stop.Memory) g = record { asked = first_behind wanted more before.calls middle.calls after.calls h.asked g.asked; files = same_behind g.files }

  module _ (end : Option Ending) (sink sink_after : SinkState) (faults : middle.faults ≡ before.faults) where
    rose_behind : Rose middle.faults after.faults → Rose before.faults after.faults
    rose_behind rose = subst (λ (n : ℕ). Rose n after.faults) faults rose

    ended_behind : (how : Status) → IsEnded more end middle after sink sink_after how → IsEnded (wanted ++ more) end before after sink sink_after how
    ended_behind how l = record { ending = l.ending; is = l.is; how_is = l.how_is; worked = worked_behind l.ending l.worked; printed = l.printed }

    cut_behind : IsCutOff more end middle after sink sink_after → IsCutOff (wanted ++ more) end before after sink sink_after
    cut_behind l = record { ending = l.ending; is = l.is; worked = worked_behind l.ending l.worked; begun = l.begun }

    spoilt_behind : IsSpoilt more end middle after sink sink_after → IsSpoilt (wanted ++ more) end before after sink sink_after
    spoilt_behind l = record {
      ending = l.ending;
      is = l.is;
      spoilt = record {
        name = l.spoilt.name;
        bytes = l.spoilt.bytes;
        file = l.spoilt.file;
        asked = joined wanted more before.calls middle.calls after.calls (failed (write_of l.spoilt.name) ∷ []) more h.asked l.spoilt.asked;
        files = λ other differs. l.spoilt.files other differs ∙ h.files other;
      };
      silent = l.silent;
    }

    pub leaves_by_behind : (how : Status) → LeavesBy more end middle after sink sink_after how → LeavesBy (wanted ++ more) end before after sink sink_after how
    leaves_by_behind status.ReadFault l =
        (rose_behind l.0, record { asked = until_behind wanted more before.calls middle.calls after.calls false h.asked l.1.asked; files = same_behind l.1.files }, l.2)
    leaves_by_behind status.WriteFault (inl l) = inl (rose_behind l.0, spoilt_behind l.1)
    leaves_by_behind status.WriteFault (inr l) = inr (l.0, cut_behind l.1)
    leaves_by_behind status.Memory (inl l) =
        inl (record { asked = first_behind wanted more before.calls middle.calls after.calls h.asked l.0.asked; files = same_behind l.0.files }, l.1)
    leaves_by_behind status.Memory (inr l) = inr (cut_behind l)
    leaves_by_behind status.Done l = ended_behind status.Done l
    leaves_by_behind status.Refused l = ended_behind status.Refused l
    leaves_by_behind status.Words l = ended_behind status.Words l
    leaves_by_behind status.ExpectFailed l = ended_behind status.ExpectFailed l

-- if work is done and its output or a first part of it is printed, the run has the effects of its status
module _ (wanted : List Ask) (end : Option Ending) (ending : Ending) (is : end ≡ Some ending) (before after : FolderState) (sink sink_after : SinkState) where
  pub leaves_told : (how : Status) → HasWorked wanted ending before after → SinkCounts ending.status sink.faults sink_after.faults how
      → (IsTrue sink.told → PrintsBy ending.printed sink.written sink_after.written how) → LeavesBy wanted end before after sink sink_after how
  leaves_told status.Done worked counts prints = record { ending = ending; is = is; how_is = counts.0; worked = worked; printed = prints }
  leaves_told status.Refused worked counts prints = record { ending = ending; is = is; how_is = counts.0; worked = worked; printed = prints }
  leaves_told status.ExpectFailed worked counts prints = record { ending = ending; is = is; how_is = counts.0; worked = worked; printed = prints }
  leaves_told status.WriteFault worked counts prints = inr (counts, record { ending = ending; is = is; worked = worked; begun = prints })
  leaves_told status.Memory worked counts prints = inr (record { ending = ending; is = is; worked = worked; begun = prints })
  leaves_told status.Words worked counts prints = absurd counts
  leaves_told status.ReadFault worked counts prints = absurd counts

counts_told : (good how : Status) (folder folder_after sink sink_after : ℕ) → folder_after ≡ folder → SinkCounts good sink sink_after how → FaultCounts folder folder_after sink sink_after how
counts_told good status.Done folder folder_after sink sink_after same counts = (same, counts.1)
counts_told good status.Refused folder folder_after sink sink_after same counts = (same, counts.1)
counts_told good status.ExpectFailed folder folder_after sink sink_after same counts = (same, counts.1)
counts_told good status.WriteFault folder folder_after sink sink_after same counts = inr (same, counts)
counts_told good status.Memory folder folder_after sink sink_after same counts = (same, counts)
counts_told good status.Words folder folder_after sink sink_after same counts = absurd counts
counts_told good status.ReadFault folder folder_after sink sink_after same counts = absurd counts

form_told : (good how : Status) (sink sink_after : ℕ) → SinkCounts good sink sink_after how → how ≢ status.Words
form_told good status.Done sink sink_after counts = λ is. cc
form_told good status.Refused sink sink_after counts = λ is. cc
form_told good status.ExpectFailed sink sink_after counts = λ is. cc
form_told good status.WriteFault sink sink_after counts = λ is. cc
form_told good status.Memory sink sink_after counts = λ is. cc
form_told good status.Words sink sink_after counts = absurd counts
form_told good status.ReadFault sink sink_after counts = absurd counts

-- if work stops, its effects are the effects of this work followed by more work
stopped_by : {A B C D : Type 0} (seen : A → B) (seen_more : C → D) (part : Work B) (more : B → Work D) (before after : FolderState) (s : Stop)
    → GivesBy seen (reads before.files part) (comes_to before.files part) before after (Err s)
    → GivesBy seen_more (reads before.files (and_then part more)) (comes_to before.files (and_then part more)) before after (Err s)
stopped_by seen seen_more part more before after (stop.Refused why) g =
    (comes_refused before.files more part why g.0, subst (λ (asks : List Ask). HasRead asks before after) (sym (reads_refused before.files more part why g.0)) g.1)
stopped_by {A} {B} {C} {D} seen seen_more part more before after stop.ReadFault g =
    let rest : List Ask = reads_behind before.files more (comes_to before.files part) in
    subst (λ (asks : List Ask). HasFailedToRead asks before after) (sym (reads_and_then before.files more part))
    (record { asked = until_front (reads before.files part) rest before.calls before.calls after.calls false g.asked; files = g.files })
stopped_by seen seen_more part more before after stop.Memory g =
    let rest : List Ask = reads_behind before.files more (comes_to before.files part) in
    subst (λ (asks : List Ask). HasBegunToRead asks before after) (sym (reads_and_then before.files more part))
    (record { asked = first_front (reads before.files part) rest before.calls before.calls after.calls g.asked; files = g.files })

pub gives_stopped : {F A B C D : Type 0} (seen : A → B) (seen_more : C → D) (part : Work B) (more : B → Work D) (folders : FolderView F) (folder after : F) (s : Stop)
    → Gives seen part folders folder after (Err s) → Gives seen_more (and_then part more) folders folder after (Err s)
gives_stopped {F} {A} {B} {C} {D} seen seen_more part more folders folder after s g = record {
  counts = by_stop A C (folders.faults folder) (folders.faults after) s g.counts;
  told = g.told;
  gives = λ told. stopped_by seen seen_more part more (seen_folder folders folder) (seen_folder folders after) s (g.gives told);
}
  where
    by_stop : (A B : Type 0) (x y : ℕ) (s : Stop) → StopCounts {A = A} x y (Err s) → StopCounts {A = B} x y (Err s)
    by_stop A B x y stop.ReadFault counts = counts
    by_stop A B x y (stop.Refused why) counts = counts
    by_stop A B x y stop.Memory counts = counts

-- if a result is a stop, and this stop is the result of the work, the result is the result of the work
pub gives_handed : {F A B : Type 0} (seen : A → B) (work : Work B) (folders : FolderView F) (folder after : F) (s : Stop) (result : Result A Stop) → IsErrAnd result (λ given. given ≡ s)
    → Gives {A = A} seen work folders folder after (Err s) → Gives seen work folders folder after result
gives_handed seen work folders folder after s (Ok value) is g = absurd is
gives_handed {F} {A} {B} seen work folders folder after s (Err given) is g = subst (λ (t : Stop). Gives {A = A} seen work folders folder after (Err t)) (sym is) g

-- if work has its value, a run of it returns the value and makes no call
pub gives_value : {F A B : Type 0} (seen : A → B) (folders : FolderView F) (folder : F) (value : A) → Gives seen (Give (seen value)) folders folder folder (Ok value)
gives_value seen folders folder value = record {
  counts = refl;
  told = refl;
  gives = λ told. (refl, record { asked = sym (append-nil (folders.calls folder)); files = λ name. refl });
}

-- if work is refused, a run of it stops for the reason and makes no call
pub gives_refused : {F A B : Type 0} (seen : A → B) (folders : FolderView F) (folder : F) (why : Reason) → Gives seen (Refuse why) folders folder folder (Err (stop.Refused why))
gives_refused seen folders folder why = record {
  counts = refl;
  told = refl;
  gives = λ told. (refl, record { asked = sym (append-nil (folders.calls folder)); files = λ name. refl });
}

-- if an allocation fails before the first read, this is a result of any work that only reads
pub gives_no_memory : {F A B : Type 0} (seen : A → B) (work : Work B) (folders : FolderView F) (folder : F) → Gives {A = A} seen work folders folder folder (Err stop.Memory)
gives_no_memory seen work folders folder = record {
  counts = refl;
  told = refl;
  gives = λ told. record { asked = first_none (reads (folders.files folder) work) (folders.calls folder) (folders.calls folder) refl; files = λ name. refl };
}

-- if two works are equal, a result of one is a result of the other
pub gives_as : {F A B : Type 0} (seen : A → B) (work other : Work B) (folders : FolderView F) (folder after : F) (result : Result A Stop)
    → work ≡ other → Gives seen work folders folder after result → Gives seen other folders folder after result
gives_as {F} {A} {B} seen work other folders folder after result same gives = subst (λ (w : Work B). Gives seen w folders folder after result) same gives

-- if work that only reads has a value and more work on this value has a result, both together have this result
pub gives_behind : {F A B C D : Type 0} (seen : A → B) (seen_more : C → D) (part : Work B) (more : B → Work D) (folders : FolderView F) (folder middle after : F) (value : A) (result : Result C Stop)
    → Gives seen part folders folder middle (Ok value) → Gives seen_more (more (seen value)) folders middle after result → Gives seen_more (and_then part more) folders folder after result
gives_behind {F} {A} {B} {C} {D} seen seen_more part more folders folder middle after value result first second = record {
  counts = subst (λ (n : ℕ). StopCounts n (folders.faults after) result) first.counts second.counts;
  told = second.told ∙ first.told;
  gives = λ told.
      let files : Files = folders.files folder in
      let h = first.gives told in
      let same : folders.files middle ≡ files = λ i name. h.1.files name i in
      let behind : GivesBy seen_more (reads (folders.files middle) (more (seen value))) (comes_to (folders.files middle) (more (seen value))) (seen_folder folders middle) (seen_folder folders after) result
      = second.gives (subst IsTrue (sym first.told) told) in
      let moved : GivesBy seen_more (reads files (more (seen value))) (comes_to files (more (seen value))) (seen_folder folders middle) (seen_folder folders after) result
      = subst (λ (f : Files). GivesBy seen_more (reads f (more (seen value))) (comes_to f (more (seen value))) (seen_folder folders middle) (seen_folder folders after) result) same behind in
      subst (λ (asks : List Ask). GivesBy seen_more asks (comes_to files (and_then part more)) (seen_folder folders folder) (seen_folder folders after) result) (sym (reads_on files more part (seen value) h.0))
      (subst (λ (end : Option (Result D Reason)). GivesBy seen_more (reads files part ++ reads files (more (seen value))) end (seen_folder folders folder) (seen_folder folders after) result) (sym (comes_on files more part (seen value) h.0))
      (gives_by_behind (reads files part) (reads files (more (seen value))) (seen_folder folders folder) (seen_folder folders middle) (seen_folder folders after) h.1 seen_more (comes_to files (more (seen value))) result moved));
}

-- if work that only reads has a value and a run does more work on this value, the run does both
pub does_behind : {F S A B : Type 0} (seen : A → B) (part : Work B) (more : B → Work Ending) (folders : FolderView F) (folder middle after : F) (value : A) (sinks : SinkView S) (out out_after : S) (how : Status)
    → Gives seen part folders folder middle (Ok value) → Does (more (seen value)) folders middle after sinks out out_after how → Does (and_then part more) folders folder after sinks out out_after how
does_behind {F} {S} {A} {B} seen part more folders folder middle after value sinks out out_after how first second = record {
  form = second.form;
  counts = subst (λ (n : ℕ). FaultCounts n (folders.faults after) (sinks.faults out) (sinks.faults out_after) how) first.counts second.counts;
  told = (second.told.0 ∙ first.told, second.told.1);
  leaves = λ told.
      let files : Files = folders.files folder in
      let h = first.gives told in
      let same : folders.files middle ≡ files = λ i name. h.1.files name i in
      let behind : LeavesBy (reads (folders.files middle) (more (seen value))) (ends (folders.files middle) (more (seen value))) (seen_folder folders middle) (seen_folder folders after) (seen_sink sinks out) (seen_sink sinks out_after) how
      = second.leaves (subst IsTrue (sym first.told) told) in
      let moved : LeavesBy (reads files (more (seen value))) (ends files (more (seen value))) (seen_folder folders middle) (seen_folder folders after) (seen_sink sinks out) (seen_sink sinks out_after) how
      = subst (λ (f : Files). LeavesBy (reads f (more (seen value))) (ends f (more (seen value))) (seen_folder folders middle) (seen_folder folders after) (seen_sink sinks out) (seen_sink sinks out_after) how) same behind in
      subst (λ (asks : List Ask). LeavesBy asks (ends files (and_then part more)) (seen_folder folders folder) (seen_folder folders after) (seen_sink sinks out) (seen_sink sinks out_after) how) (sym (reads_on files more part (seen value) h.0))
      (subst (λ (end : Option Ending). LeavesBy (reads files part ++ reads files (more (seen value))) end (seen_folder folders folder) (seen_folder folders after) (seen_sink sinks out) (seen_sink sinks out_after) how)
      (sym (ap (option_map conclusion) (comes_on files more part (seen value) h.0)))
      (leaves_by_behind (reads files part) (reads files (more (seen value))) (seen_folder folders folder) (seen_folder folders middle) (seen_folder folders after) h.1 (ends files (more (seen value)))
      (seen_sink sinks out) (seen_sink sinks out_after) first.counts how moved));
}

-- if work is done and its output is printed, the run does the work
pub does_told : {F S : Type 0} (work : Work Ending) (ending : Ending) (folders : FolderView F) (folder after : F) (sinks : SinkView S) (out out_after : S) (how : Status)
    → folders.faults after ≡ folders.faults folder → folders.told after ≡ folders.told folder
    → (IsTrue (folders.told folder) → (ends (folders.files folder) work ≡ Some ending) × HasWorked (reads (folders.files folder) work) ending (seen_folder folders folder) (seen_folder folders after))
    → Tells ending.status ending.printed sinks out out_after how → Does work folders folder after sinks out out_after how
does_told work ending folders folder after sinks out out_after how faults told worked tells = record {
  form = form_told ending.status how (sinks.faults out) (sinks.faults out_after) tells.counts;
  counts = counts_told ending.status how (folders.faults folder) (folders.faults after) (sinks.faults out) (sinks.faults out_after) faults tells.counts;
  told = (told, tells.told);
  leaves = λ told_folder.
      leaves_told (reads (folders.files folder) work) (ends (folders.files folder) work) ending (worked told_folder).0 (seen_folder folders folder) (seen_folder folders after) (seen_sink sinks out) (seen_sink sinks out_after) how
      (worked told_folder).1 tells.counts tells.prints;
}

-- if a write does not fail and the output is printed, the run does the work of writing the file
pub does_written : {F S : Type 0} (good : Status) (printed name bytes written : List ℕ) (folders : FolderView F) (folder after : F) (sinks : SinkView S) (out out_after : S) (how : Status) (x : Unit {0})
    → written ≡ bytes → folders.faults after ≡ folders.faults folder → folders.told after ≡ folders.told folder
    → (IsTrue (folders.told folder) → Writes (folders.files folder) (folders.files after) (folders.calls folder) (folders.calls after) name written (Ok x))
    → Tells good printed sinks out out_after how → Does (Give (record { status = good; file = Some (name, bytes); printed = printed })) folders folder after sinks out out_after how
does_written good printed name bytes written folders folder after sinks out out_after how x same faults told writes tells =
    let ending : Ending = record { status = good; file = Some (name, bytes); printed = printed } in
    does_told (Give ending) ending folders folder after sinks out out_after how faults told
    (λ told_folder. let w = writes told_folder in (refl, record { asked = w.2; files = (w.0, w.1 ∙ ap Some same) })) tells

-- if a write returns an error and no output is printed, the run does the work with the status of this error
pub does_unwritten : {F S : Type 0} (good : Status) (printed name bytes written : List ℕ) (folders : FolderView F) (folder after : F) (sinks : SinkView S) (out : S) (error : WriteError)
    → WriteCounts {X = Unit {0}} (folders.faults folder) (folders.faults after) (Err error) → folders.told after ≡ folders.told folder
    → (IsTrue (folders.told folder) → Writes (folders.files folder) (folders.files after) (folders.calls folder) (folders.calls after) name written (Err error))
    → Does (Give (record { status = good; file = Some (name, bytes); printed = printed })) folders folder after sinks out out (write_status error)
does_unwritten good printed name bytes written folders folder after sinks out write.Failed counts told writes = record {
  form = λ is. cc;
  counts = inl (counts, refl);
  told = (told, refl);
  leaves = λ told_folder.
      let w = writes told_folder in
      inl (
        counts,
        record {
          ending = record { status = good; file = Some (name, bytes); printed = printed };
          is = refl;
          spoilt = record { name = name; bytes = bytes; file = refl; asked = w.1; files = w.0 };
          silent = λ told_sink. refl;
        },
      );
}
does_unwritten good printed name bytes written folders folder after sinks out write.Memory counts told writes = record {
  form = λ is. cc;
  counts = (counts, refl);
  told = (told, refl);
  leaves = λ told_folder.
      let w = writes told_folder in
      inl (record { asked = record { front = []; rest = []; parts = refl; made = w.1 ∙ sym (append-nil (folders.calls folder)) }; files = w.0 }, λ told_sink. refl);
}

-- if work stops before it writes and the run satisfies `PrintsStop` for this stop, the run does the work followed by any more work
pub does_stopped : {F S A B : Type 0} (seen : A → B) (part : Work B) (more : B → Work Ending) (folders : FolderView F) (folder after : F) (s : Stop) (sinks : SinkView S) (out out_after : S) (how : Status)
    → Gives seen part folders folder after (Err s) → PrintsStop s sinks out out_after how → Does (and_then part more) folders folder after sinks out out_after how
does_stopped seen part more folders folder after (stop.Refused why) sinks out out_after how g tells =
    does_told (and_then part more) (refused_ending why) folders folder after sinks out out_after how g.counts g.told
    (λ told.
    let files : Files = folders.files folder in
    let h = g.gives told in (
      ap (option_map conclusion) (comes_refused files more part why h.0),
      record {
        asked = h.1.asked ∙ ap (λ asks. folders.calls folder ++ map answered asks) (sym (reads_refused files more part why h.0) ∙ sym (append-nil (reads files (and_then part more))));
        files = h.1.files;
      },
    ))
    tells
does_stopped {F} {S} {A} {B} seen part more folders folder after stop.ReadFault sinks out out_after how g tells =
    subst (λ (o : S). Does (and_then part more) folders folder after sinks out o how) (sym tells.1)
    (subst (λ (s : Status). Does (and_then part more) folders folder after sinks out out s) (sym tells.0)
    (record {
      form = λ is. cc;
      counts = (g.counts, refl);
      told = (g.told, refl);
      leaves = λ told. (g.counts, stopped_by seen (λ (ending : Ending). ending) part more (seen_folder folders folder) (seen_folder folders after) stop.ReadFault (g.gives told), λ told_sink. refl);
    }))
does_stopped {F} {S} {A} {B} seen part more folders folder after stop.Memory sinks out out_after how g tells =
    subst (λ (o : S). Does (and_then part more) folders folder after sinks out o how) (sym tells.1)
    (subst (λ (s : Status). Does (and_then part more) folders folder after sinks out out s) (sym tells.0)
    (record {
      form = λ is. cc;
      counts = (g.counts, refl);
      told = (g.told, refl);
      leaves = λ told. inl (stopped_by seen (λ (ending : Ending). ending) part more (seen_folder folders folder) (seen_folder folders after) stop.Memory (g.gives told), λ told_sink. refl);
    }))
