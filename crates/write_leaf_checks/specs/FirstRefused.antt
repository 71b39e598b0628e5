-- The first refusal of a tree's leaves. Definitions only.
use Rattle.std.specs.Prelude.{ℕ, ◌≡◌, List, Result, Ok, Err}
use Rattle.strip.specs.Reasons.{reason_number}
use Rattle.strip.specs.declared.Refusal.{Refusal}
use Rattle.write_pages.specs.Checks.{Verdict, refused, leaves_verdict}

-- document 01's number and place of each answer of the leaves' checks, before what comes after them
abbrev pub passed_then : {A : Type 0} → Result A Refusal → Verdict → Verdict
passed_then (Ok a) rest = rest
passed_then (Err r) rest = refused (reason_number r.reason) r.place

-- r is the first refusal of the leaves from number k on, by their counts of ids and points, if there is one
abbrev pub FirstRefused : {A : Type 0} → Result A Refusal → ℕ → List (ℕ × ℕ) → Type 0
FirstRefused r k ns = (rest : Verdict) → passed_then r rest ≡ leaves_verdict k ns rest
