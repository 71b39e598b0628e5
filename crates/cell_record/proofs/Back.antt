-- On a finite box the record keeps the head: the bits of its floats are the words that they were made of.
use mathlib.Core.Path.{◌≡◌}
use Rattle.math.proofs.Finite.{float_back}
use Rattle.strip.specs.Cell.{Vec3, Head}
use Rattle.strip.proofs.Box.{FiniteVec, FiniteBox}
use Rattle.cell_record.specs.Record.{bits, record_of, head_by}
use Rattle.cell_record.specs.Floats.{floats}
use Rattle.cell_record.specs.Words.{WordVec, WordBox}

pub vec_back : (v : Vec3) → WordVec v → FiniteVec v → bits (floats v) ≡ v
vec_back v w f = rw (float_back v.x w.x f.x, float_back v.y w.y f.y, float_back v.z w.z f.z)

pub head_back : (h : Head) → WordBox h → FiniteBox h → head_by (record_of h) ≡ h
unfolding record_of head_by
head_back h w f = rw (vec_back h.bb_min w.bb_min f.bb_min, vec_back h.bb_max w.bb_max f.bb_max, vec_back h.bb_size w.bb_size f.bb_size)
