-- Portals and links are read back. Assumes nothing.
use mathlib.Core.Path.{◌≡◌, refl, subst, ◌∙◌}
use mathlib.Core.List.{List, [], ◌∷◌, ◌++◌, map}
use Prim.Native.Nat.{ℕ, ◌*◌, ◌/◌, ◌%◌, ◌^◌, ◌<◌}
use native.Mathlib.Nat.{mod-eq_of_lt}
use native.Mathlib.Omega.{arith}
use lib.ListN.{length}
use lib.Seq.{take_at, drop_at}
use Rattle.fields.specs.Bytes.{le_at, le_bytes, les, cut}
use Rattle.fields.specs.Rows.{row_bytes, pack}
use Rattle.fields.proofs.Bytes.{length_bytes, le_bytes_lem, length_les}
use Rattle.fields.proofs.Holds.{Holds}
use Rattle.fields.proofs.Rows.{field_back, pack_lt, bits_back}
use Rattle.quantise.specs.Short.{shorts}
use Rattle.quantise.proofs.Capped.{short_lt}
use Rattle.resource.proofs.Parts.{null_empty}
use Rattle.strip.specs.Cell.{Vec3, NavPortal, NavPoint, Head}
use Rattle.strip.specs.Fits.{All, PointFits}
use Rattle.write_blocks.specs.Layout.{place_of}
use Rattle.write_blocks.proofs.Standing.{Stand}
use Rattle.read_grammar.specs.Polygons.{links_at}
use Rattle.read_grammar.specs.Derives.{back_of, portal_of, point_of}
use Rattle.write_pages.specs.Items.{floats}
use Rattle.write_blocks.specs.Optional.{block_of, address_of}
use Rattle.write_pages.specs.Sectors.{point_row, point_items}
use Rattle.write_pages.specs.Pages.{portal_row, portal_items}
use Rattle.write_pages.specs.Reread.{position_again, portal_again, point_again}
use Rattle.readback.proofs.Formed.{FinePortal}
use Rattle.write_blocks.proofs.Optional.{address_some}
use Rattle.readback.proofs.Lists.{good, block_held}
use Rattle.readback.proofs.Polygons.{bb_min, bb_size, position_back}

module _ (h : Head) where
  -- three shorts of a position in a row
  back_at : (v : Vec3) (x y z : ℕ) → x ≡ (shorts (floats v) (bb_min h) (bb_size h)).x % 256 ^ 2 → y ≡ (shorts (floats v) (bb_min h) (bb_size h)).y % 256 ^ 2
      → z ≡ (shorts (floats v) (bb_min h) (bb_size h)).z % 256 ^ 2 → back_of h x y z ≡ position_again (bb_min h) (bb_size h) v
  back_at v x y z ex ey ez =
      let q = shorts (floats v) (bb_min h) (bb_size h) in
      let fx : x ≡ q.x = ex ∙ mod-eq_of_lt (short_lt (floats v).x (bb_min h).x (bb_size h).x) in
      let fy : y ≡ q.y = ey ∙ mod-eq_of_lt (short_lt (floats v).y (bb_min h).y (bb_size h).y) in
      let fz : z ≡ q.z = ez ∙ mod-eq_of_lt (short_lt (floats v).z (bb_min h).z (bb_size h).z) in
      rw (fx, fy, fz) (position_back h v)

  portal_back : (p : NavPortal) → FinePortal p → portal_of (back_of h) (row_bytes (portal_row (bb_min h) (bb_size h) p)) ≡ portal_again (bb_min h) (bb_size h) p
  unfolding portal_of portal_again
  portal_back p f =
      let row = portal_row (bb_min h) (bb_size h) p in
      let b = row_bytes row in
      let q = shorts (floats p.from) (bb_min h) (bb_size h) in
      let r = shorts (floats p.to) (bb_min h) (bb_size h) in
      let areas : List (ℕ × ℕ) = (14, p.area_from) ∷ (14, p.area_to) ∷ (4, p.area_unk) ∷ [] in
      let e24 : le_at 4 b 24 ≡ pack areas = field_back row 24 4 (pack areas) (omega arith) refl ∙ mod-eq_of_lt (pack_lt areas) in
      let e0 : le_at 1 b 0 ≡ p.kind = field_back row 0 1 p.kind (omega arith) refl ∙ mod-eq_of_lt f.kind in
      let e1 : le_at 1 b 1 ≡ p.angle = field_back row 1 1 p.angle (omega arith) refl ∙ mod-eq_of_lt f.angle in
      let e2 : le_at 2 b 2 ≡ p.flags_unk = field_back row 2 2 p.flags_unk (omega arith) refl ∙ mod-eq_of_lt f.flags_unk in
      let e16 : le_at 2 b 16 ≡ p.poly_from = field_back row 16 2 p.poly_from (omega arith) refl ∙ mod-eq_of_lt f.poly_from in
      let e20 : le_at 2 b 20 ≡ p.poly_to = field_back row 20 2 p.poly_to (omega arith) refl ∙ mod-eq_of_lt f.poly_to in
      let from : back_of h (le_at 2 b 4) (le_at 2 b 6) (le_at 2 b 8) ≡ position_again (bb_min h) (bb_size h) p.from =
      back_at p.from (le_at 2 b 4) (le_at 2 b 6) (le_at 2 b 8) (field_back row 4 2 q.x (omega arith) refl) (field_back row 6 2 q.y (omega arith) refl) (field_back row 8 2 q.z (omega arith) refl) in
      let to : back_of h (le_at 2 b 10) (le_at 2 b 12) (le_at 2 b 14) ≡ position_again (bb_min h) (bb_size h) p.to =
      back_at p.to (le_at 2 b 10) (le_at 2 b 12) (le_at 2 b 14) (field_back row 10 2 r.x (omega arith) refl) (field_back row 12 2 r.y (omega arith) refl) (field_back row 14 2 r.z (omega arith) refl) in
      rw (e0, e1, e2, e16, e20, from, to, e24, bits_back areas 0 14 p.area_from refl, bits_back areas 14 14 p.area_to refl, bits_back areas 28 4 p.area_unk refl)

  pub portals_back : (ps : List NavPortal) → All FinePortal ps → map (portal_of (back_of h)) (portal_items (bb_min h) (bb_size h) ps) ≡ map (portal_again (bb_min h) (bb_size h)) ps
  unfolding portal_items
  portals_back [] f = refl
  portals_back (p ∷ ps) f = rw (portal_back p f.0, portals_back ps f.1)

  point_back : (t : NavPoint) → PointFits t → point_of (back_of h) (row_bytes (point_row (bb_min h) (bb_size h) t)) ≡ point_again (bb_min h) (bb_size h) t
  unfolding point_of point_again
  point_back t f =
      let row = point_row (bb_min h) (bb_size h) t in
      let b = row_bytes row in
      let q = shorts (floats t.position) (bb_min h) (bb_size h) in
      let e6 : le_at 1 b 6 ≡ t.angle = field_back row 6 1 t.angle (omega arith) refl ∙ mod-eq_of_lt f.angle in
      let e7 : le_at 1 b 7 ≡ t.kind = field_back row 7 1 t.kind (omega arith) refl ∙ mod-eq_of_lt f.kind in
      let position : back_of h (le_at 2 b 0) (le_at 2 b 2) (le_at 2 b 4) ≡ position_again (bb_min h) (bb_size h) t.position =
      back_at t.position (le_at 2 b 0) (le_at 2 b 2) (le_at 2 b 4) (field_back row 0 2 q.x (omega arith) refl) (field_back row 2 2 q.y (omega arith) refl) (field_back row 4 2 q.z (omega arith) refl) in
      rw (e6, e7, position)

  pub points_back : (ts : List NavPoint) → All PointFits ts → map (point_of (back_of h)) (point_items (bb_min h) (bb_size h) ts) ≡ map (point_again (bb_min h) (bb_size h)) ts
  unfolding point_items
  points_back [] f = refl
  points_back (t ∷ ts) f = rw (point_back t f.0, points_back ts f.1)

-- ---- links

-- numbers in a row, cut out one by one
numbers_back : (w : ℕ) (xs : List ℕ) → All (λ x. x < 256 ^ w) xs → map (λ b. le_at w b 0) (cut w (length xs) (les w xs)) ≡ xs
unfolding les cut
numbers_back w [] h = refl
numbers_back w (x ∷ xs) h =
    rw (take_at (le_bytes w x) (les w xs) w (length_bytes w x), drop_at (le_bytes w x) (les w xs) w (length_bytes w x), le_bytes_lem w x, mod-eq_of_lt h.0, numbers_back w xs h.1)

module _ (P tail graphics : List ℕ) (few : length P < 2 ^ 28) where
  no_links : links_at (P ++ tail) graphics 0 0 ≡ []
  unfolding links_at cut
  no_links = rw (null_empty (P ++ tail) graphics 0)

  pub link_table : (end : ℕ) (ls : List ℕ) → All (λ x. x < 2 ^ 16) ls → Stand P end (block_of (les 2 ls))
      → links_at (P ++ tail) graphics (address_of end (2 * length ls)) (length ls) ≡ ls
  unfolding links_at
  link_table end [] h blocks = no_links
  link_table end (l ∷ ls) h blocks =
      let b = les 2 (l ∷ ls) in
      let n : ℕ = length (l ∷ ls) in
      let long : length b ≡ 2 * n = length_les 2 (l ∷ ls) in
      let held : Holds P (place_of end (2 * n)) b = subst (λ (j : ℕ). Holds P (place_of end j) b) long (block_held P end b (omega arith) blocks) in
      let g = good P tail graphics few (2 * n) long (omega arith) held in
      let half : 2 * n / 2 ≡ n = omega arith in
      rw (address_some end (2 * n) (omega arith), g.there, long, half) (numbers_back 2 (l ∷ ls) h)
