-- The vertices, the indices and the edges in work, as the items of their lists: what `write_list` lays out of the words from a place on is laid out of
-- equal items (`relaid`), and for each of the three the items in these words are the list's (`vertex_words`, `index_words`, `edge_words_lem`).
use mathlib.Core.Path.{◌≡◌, refl, ap, subst}
use mathlib.Core.List.{List, [], ◌∷◌, ◌++◌, map, append-nil}
use Prim.Native.Nat.{ℕ, zero, suc, ◌+◌, ◌*◌, ◌/◌, ◌%◌, ◌^◌, ◌≤◌, ◌<◌}
use native.Mathlib.Omega.{arith}
use lib.ListN.{length, take, drop, get_or}
use lib.Seq.{drop-drop, get_or-drop, drop-cons}
use Rattle.fields.specs.Bytes.{le_bytes, les}
use Rattle.fields.specs.Put.{put}
use Rattle.fields.specs.Rows.{row_bytes}
use Rattle.fields.proofs.Bytes.{bytes_join, bytes_mod, le_append}
use Rattle.fields.proofs.Puts.{drop_put}
use Rattle.write_blocks.specs.Laid.{Laid}
use Rattle.write_blocks.specs.Lists.{list_blocks}
use Rattle.write_blocks.specs.declared.Layout.{Layout}
use Rattle.distinct.specs.Distinct.{index_of}
use Rattle.write_vertices.specs.Table.{triple_at, met}
use Rattle.write_pages.specs.Items.{Corner, half_of, vertex_row, vertex_items, index_items, edge_items}
use Rattle.write_edges.specs.Made.{edge_words}
use Rattle.write_edges.proofs.Halves.{length_words}
use Rattle.write_lists.specs.Words.{item_of, items_in, number_items}

-- a list of items is laid out where equal items are
pub relaid : {l r : Layout} {items items' : List (List ℕ)} {xs ys : List ℕ} (vft w : ℕ) → items ≡ items' → Laid l (list_blocks l.at vft w items) r xs ys
    → Laid l (list_blocks l.at vft w items') r xs ys
relaid {l} {r} {items} {items'} {xs} {ys} vft w e = subst (λ (bs : List (List ℕ)). Laid l (list_blocks l.at vft w bs) r xs ys) e

-- ---- vertices

-- the first of the triples, and the rest
met_cons : (w : List ℕ) (b n : ℕ) → met w b (suc n) ≡ triple_at w b ∷ met w (b + 2) n
unfolding met
met_cons w b zero = let e : b + 2 * 0 ≡ b = omega arith in rw e
met_cons w b (suc n) =
    let e : b + 2 * suc n ≡ b + 2 + 2 * n = omega arith in
    rw (met_cons w b n, e)

-- a vertex's shorts are the bytes of its triple
vertex_bytes : (t : ℕ) → row_bytes (vertex_row t) ≡ le_bytes 6 t
unfolding row_bytes
vertex_bytes t =
    let a : le_bytes 6 t ≡ le_bytes 2 t ++ le_bytes 4 (t / 65536) = bytes_join 2 4 t in
    let b : le_bytes 4 (t / 65536) ≡ le_bytes 2 (t / 65536) ++ le_bytes 2 (t / 65536 / 65536) = bytes_join 2 2 (t / 65536) in
    let c : t / 65536 / 65536 ≡ t / 2 ^ 32 = omega arith in
    rw (append-nil, ← c, a, b)

module _ (w : List ℕ) (words : (k : ℕ) → get_or w k 0 < 2 ^ 32) where
  vertex_item : (b : ℕ) → b + 1 < length w → item_of 1 6 (drop b w) ≡ row_bytes (vertex_row (triple_at w b))
  unfolding item_of triple_at les
  vertex_item b h =
      let x : ℕ = get_or w b 0 in
      let z : ℕ = get_or w (b + 1) 0 in
      let first : drop b w ≡ x ∷ drop (suc b) w = drop-cons w b 0 (omega arith) in
      let second : get_or (drop b w) 1 0 ≡ z = get_or-drop b w 1 0 in
      let e : x + z % 65536 * 4294967296 ≡ x + 4294967296 * (z % 65536) = omega arith in
      rw (second, first, vertex_bytes (x + z % 65536 * 4294967296), e, le_append 4 2 x (z % 65536) (words b), bytes_mod 2 z) (simp append-nil)

  pub vertex_words : (n b : ℕ) → b + 2 * n ≤ length w → items_in 1 6 n (drop b w) ≡ vertex_items (met w b n)
  unfolding items_in vertex_items met
  vertex_words zero b h = refl
  vertex_words (suc n) b h =
      rw (met_cons w b n, vertex_item b (omega arith), drop-drop 2 b w) (ap (λ (l : List (List ℕ)). row_bytes (vertex_row (triple_at w b)) ∷ l) (vertex_words n (b + 2) (omega arith)))

-- ---- indices

pub index_words : (w : List ℕ) (n b : ℕ) → b + n ≤ length w → items_in 0 2 n (drop b w) ≡ number_items 2 (take n (drop b w))
unfolding items_in item_of number_items les
index_words w zero b h = refl
index_words w (suc n) b h =
    let first : drop b w ≡ get_or w b 0 ∷ drop (suc b) w = drop-cons w b 0 (omega arith) in
    rw first (ap (λ (l : List (List ℕ)). le_bytes 2 (get_or w b 0) ∷ l) (index_words w n (suc b) (omega arith)))

-- the numbers of the corners are the items of the index list
pub index_items_lem : (table : List ℕ) (ks : List Corner) → number_items 2 (map (λ k. index_of table k.vertex) ks) ≡ index_items table ks
unfolding number_items index_items row_bytes
index_items_lem table [] = refl
index_items_lem table (k ∷ ks) =
    rw append-nil (ap (λ (l : List (List ℕ)). le_bytes 2 (index_of table k.vertex) ∷ l) (index_items_lem table ks))

-- ---- edges

made_items : (ids : List ℕ) (ks : List Corner) (rest : List ℕ) → items_in 1 8 (length ks) (edge_words ids ks ++ rest) ≡ edge_items ids ks
unfolding items_in item_of edge_words edge_items les row_bytes
made_items ids [] rest = refl
made_items ids (k ∷ ks) rest =
    rw (append-nil, append-nil) (ap (λ (l : List (List ℕ)). (le_bytes 4 (half_of ids k.edge.a) ++ le_bytes 4 (half_of ids k.edge.b)) ∷ l) (made_items ids ks rest))

pub edge_words_lem : (ids : List ℕ) (ks : List Corner) (w w' : List ℕ) (n b : ℕ) → n ≡ length ks → b + 2 * n ≤ length w → w' ≡ put b (edge_words ids ks) w
    → items_in 1 8 n (drop b w') ≡ edge_items ids ks
edge_words_lem ids ks w w' n b many room e =
    let fits : b + length (edge_words ids ks) ≤ length w = omega (arith, length_words ids ks) in
    rw (e, many, drop_put b (edge_words ids ks) w fits) (made_items ids ks _)
