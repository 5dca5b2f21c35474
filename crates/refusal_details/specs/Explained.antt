-- The refusals of a source, each with its place and its detail.
use Rattle.std.specs.Prelude.{ℕ, nat_lt, not, if◌then◌else◌, List, length, map}
use Rattle.std.specs.Str.{is_utf8}
use Rattle.std.specs.Str.Lossy.{utf8_valid_len}
use Rattle.kmn_base.specs.declared.limits.TheConstants.{TEXT_BYTES}
use Rattle.kmn_base.specs.declared.refusals.Refusal.{Refusal}
use Rattle.source_names.specs.declared.causes.NameFault.{NameFault}
use Rattle.source_faults.specs.Faults.{name_faults}
use Rattle.refusal_places.specs.Bytes.{behind_bytes}
use Rattle.refusal_places.specs.Placed.{at_start, placed_in}
use Rattle.refusal_details.specs.declared.definitions.KnownNames.{KnownNames}
use Rattle.refusal_details.specs.declared.detail.Detail.TheVariants as detail
use Rattle.refusal_details.specs.declared.detail.Explained.{Explained}
use Rattle.refusal_details.specs.Definitions.{stated_names}
use Rattle.refusal_details.specs.Details.{detail_in}

-- a refusal at the start of its line, without a detail
abbrev pub unexplained : Refusal → Explained
unexplained found = record { placed = at_start found; detail = detail.Nothing }

-- a refusal of bytes at the byte after this many bytes, without a detail
abbrev pub unreadable : List ℕ → ℕ → Refusal → Explained
unreadable source size found = record { placed = behind_bytes source size found; detail = detail.Nothing }

-- a refusal at its place with its detail, for the causes for which names refuse lines of the source and the names that the source defines
unfoldable pub explained_in : List ℕ → List NameFault → KnownNames → Refusal → Explained
explained_in source faults names found = record { placed = placed_in source faults found; detail = detail_in source faults names found }

-- refusals of a source in UTF-8, each at its place with its detail
unfoldable pub explained_text : List ℕ → List Refusal → List Explained
explained_text source refusals = map (explained_in source (name_faults source) (stated_names source)) refusals

-- refusals of a source, each at its place with its detail; a source that is too long or not in UTF-8 has no lines, and the refusal of one
-- that is not in UTF-8 is at its first byte that is not
unfoldable pub explained : List ℕ → List Refusal → List Explained
explained source refusals =
    if nat_lt TEXT_BYTES (length source) then map unexplained refusals
    else (if not (is_utf8 source) then map (unreadable source (utf8_valid_len source)) refusals else explained_text source refusals)
