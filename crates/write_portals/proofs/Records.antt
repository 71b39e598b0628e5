-- The words that the code stores have the bytes of a portal's row. Assumes nothing.
use Prim.Native.Nat.{ℕ, ◌+◌, ◌/◌, ◌%◌, ◌^◌}
use mathlib.Core.Path.{◌≡◌}
use mathlib.Core.List.{List, [], ◌∷◌, ◌++◌, append_assoc}
use native.Mathlib.Omega.{arith}
use Rattle.fields.specs.Bytes.{le_bytes, les}
use Rattle.fields.specs.Rows.{row_bytes, pack, field}
use Rattle.fields.proofs.Bytes.{bytes_join, bytes_mod}
use Rattle.math.specs.declared.vec3.Vec3.{Vec3 as Floats}
use Rattle.quantise.specs.Short.{shorts}
use Rattle.quantise.specs.declared.short.Shorts.{Shorts}
use Rattle.strip.specs.Reading.{word, vec_at, low16, high16, nav_portal_at}
use Rattle.write_pages.specs.Items.{floats}
use Rattle.write_pages.specs.Pages.{portal_row}

-- its first word is its kind and angle
kind_angle : (w : ℕ) → le_bytes 2 w ≡ le_bytes 1 (field 0 8 w) ++ le_bytes 1 (field 8 8 w)
unfolding le_bytes
kind_angle w =
    let a : w / 2 ^ 0 % 2 ^ 8 % 256 ≡ w % 256 = omega arith in
    let b : w / 2 ^ 8 % 2 ^ 8 % 256 ≡ w / 256 % 256 = omega arith in
    rw (a, b)

module _ (bb-min bb-size : Floats) (s : List ℕ) (at : ℕ) where
  pub portal_words : (a b : Shorts) (v : ℕ) → a ≡ shorts (floats (vec_at s (at + 2))) bb-min bb-size → b ≡ shorts (floats (vec_at s (at + 5))) bb-min bb-size
      → v ≡ pack ((14, low16 (word s (at + 9))) ∷ (14, high16 (word s (at + 9))) ∷ (4, word s (at + 10)) ∷ [])
      → les 2
      (word s at ∷ word s (at + 1) ∷ a.x ∷ a.y ∷ a.z ∷ b.x ∷ b.y ∷ b.z
      ∷ word s (at + 8) ∷ word s (at + 8) ∷ word s (at + 8) / 65536 ∷ word s (at + 8) / 65536 ∷ v ∷ v / 65536 ∷ [])
      ≡ row_bytes (portal_row bb-min bb-size (nav_portal_at s at))
  unfolding les row_bytes nav_portal_at
  portal_words a b v ea eb ev =
      rw (ea, eb, ← ev)
      (simp (kind_angle (word s at), bytes_mod 2 (word s (at + 8)), bytes_join 2 2 v, append_assoc))
