-- What a lookup in two lent sections returns. Definitions only.
use Rattle.std.specs.Prelude.{ℕ, ◌≡◌, true, cond, List, eqb}
use Rattle.std.specs.Borrow.{Bor}
use Rattle.std.specs.declared.option.Option.{Option}
use Rattle.std.specs.declared.option.Option.TheVariants.{None, Some}
use Rattle.resource.specs.Section.{good, resolved}
use Rattle.resource.specs.Places.{resolved_at}
use Rattle.res_reader.specs.declared.Pointer.{Pointer}
use Rattle.res_reader.specs.declared.Pointer.TheVariants.{Null, Good, NotGood}

-- the part that an address names, an empty one where it isn't good; and a good one stands in the memory of its section itself
pub record Looked (system graphics : Bor (List ℕ)) (va len : ℕ) (r : Bor (List ℕ)) : Type 0 where
  pub content : r.now ≡ resolved system.now graphics.now va len
  pub place : good system.now graphics.now va len ≡ true → r.ref_ptr ≡ resolved_at system graphics va

-- what an answer of two layers tells of them: nothing where the address isn't good, and no part where it is null
abbrev pub told : {A : Type 0} → Option (Option A) → Pointer
told None = NotGood
told (Some None) = Null
told (Some (Some part)) = Good

-- what an address and a length name
unfoldable pub pointer_to : List ℕ → List ℕ → ℕ → ℕ → Pointer
pointer_to system graphics va len = cond (eqb va 0) Null (cond (good system graphics va len) Good NotGood)
