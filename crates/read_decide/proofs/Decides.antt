-- Pass one: what the checks after the walk come to, by what was called. Assumes nothing.
use Prim.Native.Nat.{ℕ, ◌+◌, ◌*◌, ◌/◌, ◌^◌, ◌≤◌, ◌<◌}
use native.Mathlib.Omega.{arith}
use mathlib.Core.Path.{◌≡◌, refl, sym, ap, subst, ◌∙◌}
use mathlib.Core.Bool.{Bool, true, false, cond}
use mathlib.Core.List.{List, [], ◌∷◌}
use lib.ListN.{length}
use Rattle.strip.specs.Reasons.{reason_number}
use Rattle.std.specs.Prelude.{Result, Ok, Err}
use Rattle.fields.specs.Bytes.{le_at}
use Rattle.resource.specs.Section.{resolved}
use Rattle.strip.specs.declared.Reason.{Reason}
use Rattle.strip.specs.declared.Refusal.{Refusal}
use Rattle.read_lists.specs.Lists.{total, table_of, listed}
use Rattle.read_lists.specs.Listed.{Readable}
use Rattle.read_polygon_words.proofs.Words.{links_are, length_links}
use Rattle.read_list_set.specs.declared.Limits.{Limits}
use Rattle.read_polygons.specs.Polygons.{limits_of}
use Rattle.read_polygon_tally.specs.Tally.{tally_from}
use Rattle.read_polygon_tally.specs.Steps.{Small}
use Rattle.strip.specs.Outcome.{Paper, values, refusal, refusal_of, paper}
use Rattle.strip.proofs.Papers.{no_values}
use Rattle.read_list_set.specs.Items.{items_in}
use Rattle.read_list_set.specs.Listed.{lists_of, ListsRead, ListsCounted}
use Rattle.read_list_set.specs.Listed as Listed
use Rattle.read_polygons.proofs.Exact.{tally_made}
use Rattle.read_list_set.proofs.Runs.{length_items}
use Rattle.read_lists.proofs.Lists.{whole_of, not_whole}
use Rattle.strip.specs.Cell.{encode}
use Rattle.read_decide.specs.declared.ListAddresses.{ListAddresses}
use Rattle.read_decide.specs.declared.Parsed.{Parsed}
use Rattle.read_decide.specs.Reading.{Reading, made, refused, on_paper, header, source, polygons, portal_count, portals, root_at, cell_of, on_walk, on_head, on_lists, after_walk, read_cell}
use Rattle.strip.specs.Outcome.{shown}
use Rattle.read_lists.specs.Lists.{readable_at}
use Rattle.read_sectors.specs.declared.Tree.{Tree}
use Rattle.read_sectors.specs.Walk.{Walked, walk}
use Rattle.read_sectors.specs.Walk as Walk
use Rattle.read_sectors.specs.Answer.{outcome_of, tree_outcome, Small as FewPoints}
use Rattle.read_sectors.proofs.Answers.{by_walk, accepted}
use Rattle.read_decide.specs.Answer.{counts_of}
use Rattle.read_decide.specs.Deciding.{answer_of, passed_then, addresses, link_bytes, polys_words, ListsReady, Tallied, ListsChecked}
use Rattle.read_decide.proofs.Lengths.{polys_count, portals_count, points_count, encode_length}

-- ---- the four lists

refused_of : {m p n q : ℕ} → ◌≡◌ {A = Paper (Limits × ℕ)} (refusal m p) (refusal n q) → refused m p ≡ refused n q
refused_of e = cc

-- the four in turn, before the rest
abbrev in_turn : Paper ℕ → Paper ℕ → Paper ℕ → Paper ℕ → Reading → Reading
in_turn a b c d rest = on_paper a (on_paper b (on_paper c (on_paper d rest)))

module _ (links : ℕ) where
  -- the answer on four lists, by theirs
  four : Paper ℕ → Paper ℕ → Paper ℕ → Paper ℕ → Paper (Limits × ℕ)
  four a b c d =
      Listed.on_list a (λ v. Listed.on_list b (λ i. Listed.on_list c (λ e. Listed.on_list d (λ p. values (record { vertices = v; indices = i; edges = e; links = links }, p)))))

  turned : (a b c d : Paper ℕ) (rest : Reading) {number place : ℕ} → four a b c d ≡ refusal number place → in_turn a b c d rest ≡ refused number place
  unfolding four
  turned (refusal m q) b c d rest e = refused_of e
  turned (values v) (refusal m q) c d rest e = refused_of e
  turned (values v) (values i) (refusal m q) d rest e = refused_of e
  turned (values v) (values i) (values j) (refusal m q) rest e = refused_of e
  turned (values v) (values i) (values j) (values p) rest e = absurd (no_values (sym e))

  taken : (a b c d : Paper ℕ) (rest : Reading) {l : Limits} {n : ℕ} → four a b c d ≡ values (l, n) → in_turn a b c d rest ≡ rest
  unfolding four
  taken (refusal m q) b c d rest e = absurd (no_values e)
  taken (values v) (refusal m q) c d rest e = absurd (no_values e)
  taken (values v) (values i) (refusal m q) d rest e = absurd (no_values e)
  taken (values v) (values i) (values j) (refusal m q) rest e = absurd (no_values e)
  taken (values v) (values i) (values j) (values p) rest e = refl

module _ (S G : List ℕ) where
  -- what the list at one of the header's addresses answers
  abbrev answer : ℕ → ℕ → ℕ → Paper ℕ
  answer w off place = listed S G w (le_at 8 (header S G) off) place

  links_count : length (link_bytes S G) / 2 ≡ length (source S G).links
  unfolding link_bytes source
  links_count =
      sym (ap length (links_are S G (le_at 8 (header S G) 0x130) (le_at 4 (header S G) 0x150)) ∙ length_links (resolved S G (le_at 8 (header S G) 0x130) (2 * le_at 4 (header S G) 0x150)))

module _ (S G : List ℕ) {a : ListAddresses} (ea : a ≡ addresses (header S G)) {ls : List ℕ} (el : ls ≡ link_bytes S G)
    (r : Result (Limits × ℕ) Refusal) (er : (paper r ≡ lists_of S G a.vertices a.indices a.edges a.polygons (length ls / 2)) × ListsRead S G a.vertices a.indices a.edges a.polygons (length ls / 2) r) where
  by_header : (paper r ≡ lists_of S G (le_at 8 (header S G) 0x70) (le_at 8 (header S G) 0x80) (le_at 8 (header S G) 0x88) (le_at 8 (header S G) 0x118) (length (link_bytes S G) / 2))
      × ListsRead S G (le_at 8 (header S G) 0x70) (le_at 8 (header S G) 0x80) (le_at 8 (header S G) 0x88) (le_at 8 (header S G) 0x118) (length (link_bytes S G) / 2) r
  unfolding addresses
  by_header = rw (ea, el) at er

  pub stopped_by_list : {q : Refusal} → r ≡ Err q → (rest : Reading) → on_lists S G rest ≡ refused (reason_number q.reason) q.place
  unfolding on_lists lists_of four
  stopped_by_list e rest =
      turned (length (link_bytes S G) / 2) (answer S G 6 0x70 1) (answer S G 2 0x80 2) (answer S G 8 0x88 3) (answer S G 48 0x118 4)
      (on_paper (tally_from (limits_of (source S G)) (source S G).indices 0 (polygons S G)) rest) (sym by_header.0 ∙ ap paper e)

  module _ {l : Limits} {n : ℕ} (found : r ≡ Ok (l, n)) where
    all_taken : (rest : Reading) → in_turn (answer S G 6 0x70 1) (answer S G 2 0x80 2) (answer S G 8 0x88 3) (answer S G 48 0x118 4) rest ≡ rest
    unfolding lists_of four
    all_taken rest =
        taken (length (link_bytes S G) / 2) (answer S G 6 0x70 1) (answer S G 2 0x80 2) (answer S G 8 0x88 3) (answer S G 48 0x118 4) rest (sym by_header.0 ∙ ap paper found)

    counts : ListsCounted S G (le_at 8 (header S G) 0x70) (le_at 8 (header S G) 0x80) (le_at 8 (header S G) 0x88) (le_at 8 (header S G) 0x118) (length (link_bytes S G) / 2) l n
    counts = rw found at by_header.1

    all_ready : ListsReady S G
    all_ready = record { vertices = counts.vertices.readable; indices = counts.indices.readable; edges = counts.edges.readable; polygons = counts.polys.readable }

    limits_are : l ≡ limits_of (source S G)
    unfolding source
    limits_are =
        let s = source S G in
        let make : ℕ → ℕ → ℕ → ℕ → Limits = λ a b c d. record { vertices = a; indices = b; edges = c; links = d } in
        let v : l.vertices ≡ length s.vertices = counts.vertices.count ∙ sym (length_items S G 6 (table_of S G (le_at 8 (header S G) 0x70))) in
        let i : l.indices ≡ length s.indices = counts.indices.count ∙ sym (length_items S G 2 (table_of S G (le_at 8 (header S G) 0x80))) in
        let e : l.edges ≡ length s.edges = counts.edges.count ∙ sym (length_items S G 8 (table_of S G (le_at 8 (header S G) 0x88))) in
        let k : l.links ≡ length s.links = counts.link_count ∙ links_count S G in
        let readable_at : make l.vertices l.indices l.edges l.links ≡ make (length s.vertices) (length s.indices) (length s.edges) (length s.links) = rw (v, i, e, k) in
        readable_at

    module _ {it pt : List ℕ} (ei : it ≡ table_of S G a.indices) (ep : pt ≡ table_of S G a.polygons) where
      index_table : it ≡ table_of S G (le_at 8 (header S G) 0x80)
      unfolding addresses
      index_table = rw ea at ei

      polygon_table : pt ≡ table_of S G (le_at 8 (header S G) 0x118)
      unfolding addresses
      polygon_table = rw ea at ep

      -- pass one over the polygons may be called
      pub may_check : Readable S G 2 it × Readable S G 48 pt × (l.indices ≡ total it) × (n ≡ total pt)
      may_check = rw (index_table, polygon_table) (counts.indices.readable, counts.polys.readable, counts.indices.count, counts.polys.count)

      module _ (t : Result ℕ Refusal) (et : (paper t ≡ tally_from l (items_in S G 2 it) 0 (items_in S G 48 pt)) × Small (18434 * n) t) where
        tally_is : tally_from (limits_of (source S G)) (source S G).indices 0 (polygons S G) ≡ paper t
        unfolding source
        tally_is = sym (et.0 ∙ rw (limits_are, index_table, polygon_table))

        pub stopped_by_polygon : {q : Refusal} → t ≡ Err q → (rest : Reading) → on_lists S G rest ≡ refused (reason_number q.reason) q.place
        unfolding on_lists
        stopped_by_polygon e rest = all_taken (on_paper (tally_from (limits_of (source S G)) (source S G).indices 0 (polygons S G)) rest) ∙ rw (tally_is, e)

        pub all_tallied : {w : ℕ} → t ≡ Ok w → Tallied S G w n
        unfolding on_lists polys_words
        all_tallied {w} e =
            record {
              passes = λ rest. all_taken (on_paper (tally_from (limits_of (source S G)) (source S G).indices 0 (polygons S G)) rest) ∙ rw (tally_is, e);
              ready = all_ready;
              count_is = counts.polys.count ∙ sym (length_items S G 48 (table_of S G (le_at 8 (header S G) 0x118)));
              words_are = (tally_made (source S G) 0 (polygons S G) (tally_is ∙ ap paper e)).1;
              few = omega (arith, counts.polys.readable.few, counts.polys.count);
              small = rw e at et.1;
            }

-- ---- after the walk

module _ (S G : List ℕ) {r : Result (ℕ × ℕ) Refusal} (er : ListsChecked S G r) where
  pub rest_stopped : {q : Refusal} → r ≡ Err q → (points : List (List ℕ)) (k : ℕ) → refusal_of q ≡ answer_of (after_walk S G points k)
  unfolding after_walk
  rest_stopped {q} e points k =
      let stops : (rest : Reading) → on_lists S G rest ≡ refused (reason_number q.reason) q.place = subst (ListsChecked S G) e er in
      ap answer_of (sym (stops _))

  module _ {w n : ℕ} (e : r ≡ Ok (w, n)) where
    pub tallied : Tallied S G w n
    tallied = subst (ListsChecked S G) e er

    module _ {pc : ℕ} (ec : (pc ≡ portal_count S G) × (pc < 2 ^ 32)) {ps : List ℕ} (ep : ps ≡ portals S G) where
      pub portals_stop : length ps < 28 * pc → (points : List (List ℕ)) (k : ℕ) → refusal 39 0 ≡ answer_of (after_walk S G points k)
      unfolding after_walk portals
      portals_stop h points k =
          let short = rw (ep, ec.0) at h in
          let is : after_walk S G points k ≡ refused 39 0 = tallied.passes _ ∙ rw (not_whole S G (le_at 8 (header S G) 0x128) (28 * portal_count S G) short) in
          sym (ap answer_of is)

      pub parsed : 28 * pc ≤ length ps → (points : List (List ℕ)) (k : ℕ) {pn : ℕ} → length points ≡ pn
          → values (record { words = 14 + w + 11 * pc + 4 * pn + 1; polys = n; portals = pc; points = pn; sectors = k }) ≡ answer_of (after_walk S G points k)
      unfolding after_walk portals cell_of
      parsed h points k {pn} en =
          let long = rw (ep, ec.0) at h in
          let is : after_walk S G points k ≡ made (cell_of S G points) k = tallied.passes _ ∙ rw (whole_of S G (le_at 8 (header S G) 0x128) (28 * portal_count S G) long) in
          let make : ℕ → ℕ → ℕ → ℕ → Parsed = λ a b c d. record { words = a; polys = b; portals = c; points = d; sectors = k } in
          let words : 14 + w + 11 * pc + 4 * pn + 1 ≡ length (encode (cell_of S G points)) = omega (arith, encode_length S G points, tallied.words_are, ec.0) in
          let polys : n ≡ length (cell_of S G points).polys = tallied.count_is ∙ sym (polys_count S G) in
          let ports : pc ≡ length (cell_of S G points).portals = ec.0 ∙ sym (portals_count S G) in
          let pts : pn ≡ length (cell_of S G points).points = sym en ∙ sym (points_count S G points) in
          let same : make (14 + w + 11 * pc + 4 * pn + 1) n pc pn ≡ counts_of (cell_of S G points) k =
          ap (λ (a : ℕ). make a n pc pn) words ∙ ap (λ (a : ℕ). make (length (encode (cell_of S G points))) a pc pn) polys
          ∙ ap (λ (a : ℕ). make (length (encode (cell_of S G points))) (length (cell_of S G points).polys) a pn) ports
          ∙ ap (λ (a : ℕ). make (length (encode (cell_of S G points))) (length (cell_of S G points).polys) (length (cell_of S G points).portals) a) pts in
          ap values same ∙ sym (ap answer_of is)

-- ---- the walk

-- a root that passed isn't 0
pub passed_far : (S G : List ℕ) → ((rest : Reading) → on_head S G rest ≡ rest) → root_at S G ≡ 0 → ⊥
unfolding on_head
passed_far S G passes z = by (readable_at S G 0x5000_0000 368) (rw z at (passes (refused 0 0)))
  where
    by : (b : Bool) → cond b (refused 31 0) (refused 30 0) ≡ refused 0 0 → ⊥
    by true e = let n : ◌≡◌ {A = ℕ} 31 0 = cc in omega arith
    by false e = let n : ◌≡◌ {A = ℕ} 30 0 = cc in omega arith

module _ (S G : List ℕ) {x : Result (Unit {0}) Reason} (ex : (rest : Reading) → on_head S G rest ≡ passed_then x rest) where
  pub head_stopped : {q : Reason} → x ≡ Err q → ◌≡◌ {A = Paper Parsed} (refusal (reason_number q) 0) (answer_of (read_cell S G))
  unfolding read_cell
  head_stopped {q} e =
      let is : read_cell S G ≡ refused (reason_number q) 0 = ex _ ∙ rw e in
      sym (ap answer_of is)

  module _ {u : Unit {0}} (e : x ≡ Ok u) {root : ℕ} (er : root ≡ root_at S G) (a : Result Tree Refusal) (ea : (paper a ≡ shown (tree_outcome S G root)) × FewPoints a) where
    passes : (rest : Reading) → on_head S G rest ≡ rest
    passes rest = ex rest ∙ rw e

    at_root : paper a ≡ shown (tree_outcome S G (root_at S G))
    at_root = ea.0 ∙ ap (λ (n : ℕ). shown (tree_outcome S G n)) er

    pub tree_stopped : {q : Refusal} → a ≡ Err q → refusal_of q ≡ answer_of (read_cell S G)
    unfolding read_cell
    tree_stopped {q} f =
        let w = walk S G 4096 (root_at S G ∷ []) in
        let says : refusal_of {A = Tree} q ≡ shown (outcome_of w) = sym (ap paper f) ∙ at_root ∙ ap shown (by_walk S G (root_at S G) (passed_far S G passes)) in
        let is : read_cell S G ≡ refused (reason_number q.reason) q.place = passes (on_walk w (after_walk S G)) ∙ by w says in
        sym (ap answer_of is)
      where
        by : (w : Walked) → refusal_of {A = Tree} q ≡ shown (outcome_of w) → on_walk w (after_walk S G) ≡ refused (reason_number q.reason) q.place
        by (Walk.refused number) g = cc
        by (Walk.done left points) g = let z : ◌≡◌ {A = ℕ} 0 1 = cc in absurd (omega arith)

    module _ {t : Tree} (f : a ≡ Ok t) where
      pub few_points : t.points ≤ 65535 * 4096
      few_points = let small : FewPoints (Ok t) = rw f at ea.1 in small

      pub decided : (r : Result Parsed Refusal) → ((points : List (List ℕ)) → length points ≡ t.points → paper r ≡ answer_of (after_walk S G points t.sectors)) → paper r ≡ answer_of (read_cell S G)
      unfolding read_cell
      decided r g =
          let found = accepted S G (root_at S G) (sym (ap paper f) ∙ at_root) in
          let is : read_cell S G ≡ after_walk S G found.points t.sectors =
          passes _ ∙ ap (λ (w : Walked). on_walk w (after_walk S G)) found.is ∙ ap (after_walk S G found.points) (sym found.sectors_are) in
          g found.points (sym found.points_are) ∙ sym (ap answer_of is)
