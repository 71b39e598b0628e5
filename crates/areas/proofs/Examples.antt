-- Cases that a near miss gets wrong, computed from the definitions.
use Rattle.std.proofs.Common.{◌≡◌, [], ◌∷◌, refl}
use Rattle.fields.specs.Rows.{pack}
use Rattle.distinct.specs.Distinct.{index_of, with_new, distinct_from}
use Rattle.areas.specs.Areas.{seeded}
use Rattle.areas.specs.EdgeHalf.{half_word}
use Rattle.areas.specs.Decoded.{none_word}

-- the neighbours wrap
pub wraps : seeded 4294967295 ≡ 4294967295 ∷ 16383 ∷ 4294967195 ∷ 4294967294 ∷ 0 ∷ 99 ∷ []
unfolding distinct_from with_new index_of
wraps = refl

-- in a cell whose own id is 16383, NONE has index 0
pub own_none : none_word (index_of (seeded 16383) 16383) ≡ 0x0007FFE0
unfolding distinct_from with_new index_of half_word pack
own_none = refl
