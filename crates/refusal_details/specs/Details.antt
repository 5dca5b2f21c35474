-- The detail of a refusal, by its code.
use Rattle.std.specs.Prelude.{ℕ, List, []}
use Rattle.kmn_base.specs.declared.codes.Code.{Code}
use Rattle.kmn_base.specs.declared.codes.Code.TheVariants.{L04, S01, S02, S05, S06, S09, S11, S12, C03, C04, C05, C06, C11, C12}
use Rattle.kmn_base.specs.declared.refusals.Refusal.{Refusal}
use Rattle.source_names.specs.declared.causes.NameFault.{NameFault}
use Rattle.refusal_places.specs.Names.{name_at}
use Rattle.refusal_details.specs.declared.definitions.KnownNames.{KnownNames}
use Rattle.refusal_details.specs.declared.detail.Detail.{Detail}
use Rattle.refusal_details.specs.declared.detail.Detail.TheVariants as detail
use Rattle.refusal_details.specs.declared.details.Subject.{Subject}
use Rattle.refusal_details.specs.declared.details.Subject.TheVariants as about
use Rattle.refusal_details.specs.declared.words.WrongToken.{WrongToken}
use Rattle.refusal_details.specs.declared.words.WrongToken.TheVariants as wrong
use Rattle.refusal_details.specs.Defined.{defined}
use Rattle.refusal_details.specs.Keys.{meant}
use Rattle.refusal_details.specs.Nearest.{lacked}
use Rattle.refusal_details.specs.Systems.{like_systems}
use Rattle.refusal_details.specs.Words.{source_text, worded}

-- what the detail of a refusal with a code is about
unfoldable pub subject_of : Code → Subject
subject_of C03 = about.StoreAgain
subject_of C04 = about.GroupAgain
subject_of C05 = about.NoStore
subject_of C06 = about.NoGroup
subject_of L04 = about.Word wrong.Stop
subject_of S01 = about.Word wrong.Statement
subject_of S02 = about.Word wrong.Stop
subject_of S05 = about.Word wrong.Stop
subject_of S06 = about.Word wrong.Stop
subject_of S09 = about.Word wrong.Stop
subject_of S11 = about.KeyWord
subject_of S12 = about.SystemName
subject_of C11 = about.Word wrong.CallName
subject_of C12 = about.Word wrong.LeftOut
subject_of other = about.Nothing

-- the word of the refused line that is wrong
unfoldable pub word_detail : List ℕ → Refusal → WrongToken → Detail
word_detail source found which = worded (source_text source found.line found.code which) []

-- a word in brackets with the names of keys and modifiers that it may mean, and the word of the refused line that is wrong with these names
abbrev pub key_worded : List ℕ → Detail
key_worded word = worded word (meant word)

unfoldable pub key_detail : List ℕ → Refusal → Detail
key_detail source found = key_worded (source_text source found.line found.code wrong.Stop)

-- a word with the names of system stores that it is like, and the word of the refused line that is wrong with these names
abbrev pub system_worded : List ℕ → Detail
system_worded word = worded word (like_systems word)

unfoldable pub system_detail : List ℕ → Refusal → Detail
system_detail source found = system_worded (source_text source found.line found.code wrong.Stop)

-- the detail of a refusal about a subject, for the name that the line lacks and the names that the source defines
abbrev pub detail_about : Subject → List ℕ → List ℕ → KnownNames → Refusal → Detail
detail_about about.Nothing source name names found = detail.Nothing
detail_about about.StoreAgain source name names found = defined found.line names.stores
detail_about about.GroupAgain source name names found = defined found.line names.groups
detail_about about.NoStore source name names found = lacked name names.stores
detail_about about.NoGroup source name names found = lacked name names.groups
detail_about (about.Word which) source name names found = word_detail source found which
detail_about about.KeyWord source name names found = key_detail source found
detail_about about.SystemName source name names found = system_detail source found

-- the detail of a refusal, for the causes for which names refuse lines of the source and the names that the source defines
unfoldable pub detail_in : List ℕ → List NameFault → KnownNames → Refusal → Detail
detail_in source faults names found = detail_about (subject_of found.code) source (name_at found.line faults) names found
