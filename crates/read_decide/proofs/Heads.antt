-- What the checks before the walk come to, in their order. Assumes nothing.
use Prim.Native.Nat.{ℕ, ◌≤◌, ◌<◌}
use native.Mathlib.Nat.{pos_of_ne-zero}
use mathlib.Core.Path.{◌≡◌}
use mathlib.Core.Bool.{true, false}
use mathlib.Core.List.{List}
use lib.Dec.{ltb}
use lib.ListN.{length}
use borrow.Author.Tests.{lt-ltb}
use Rattle.strip.specs.Box.{finite_box}
use Rattle.read_lists.proofs.Lists.{whole_of, not_whole}
use Rattle.read_decide.specs.Reading.{Reading, refused, header, root_at, root, head, on_head}

module _ (S G : List ℕ) (rest : Reading) where
  pub no_header : length (header S G) < 368 → on_head S G rest ≡ refused 30 0
  unfolding on_head header
  no_header h = rw (not_whole S G 0x5000_0000 368 h)

  module _ (h : 368 ≤ length (header S G)) where
    pub null_root : root_at S G ≡ 0 → on_head S G rest ≡ refused 31 0
    unfolding on_head header
    null_root e = rw (whole_of S G 0x5000_0000 368 h, e)

    module _ (far : root_at S G ≡ 0 → ⊥) where
      there : ltb 0 (root_at S G) ≡ true
      there = lt-ltb 0 (root_at S G) (pos_of_ne-zero far)

      pub no_root : length (root S G) < 96 → on_head S G rest ≡ refused 32 0
      unfolding on_head header root
      no_root r = rw (whole_of S G 0x5000_0000 368 h, there, not_whole S G (root_at S G) 96 r)

      module _ (r : 96 ≤ length (root S G)) where
        pub no_box : finite_box (head S G) ≡ false → on_head S G rest ≡ refused 40 0
        unfolding on_head header root
        no_box f = rw (whole_of S G 0x5000_0000 368 h, there, whole_of S G (root_at S G) 96 r, f)

        pub head_passed : finite_box (head S G) ≡ true → on_head S G rest ≡ rest
        unfolding on_head header root
        head_passed f = rw (whole_of S G 0x5000_0000 368 h, there, whole_of S G (root_at S G) 96 r, f)
