-- What stands at a position of a strip: one item, or n items one after the other. Every list of a cell is read so, by a count and a
-- position that moves on, which is how a loop goes through it. Definitions only.
use Rattle.std.specs.Prelude.{ℕ, zero, suc, ◌+◌, ◌*◌, ◌/◌, ◌%◌, List, [], ◌∷◌, get_or}
use Rattle.fields.specs.Rows.{field}
use Rattle.strip.specs.Cell.{Vec3, NavEdgeEnd, NavEdge, NavPoly, NavPortal, NavPoint, Head}
use Rattle.strip.specs.declared.Poly.{Poly}

-- the word at a position
abbrev pub word : List ℕ → ℕ → ℕ
word s at = get_or s at 0

-- n items from a position on, where each says how to read it and where the next one is; and where n items end
unfoldable pub items_at : {A : Type 0} → (ℕ → A) → (ℕ → ℕ) → ℕ → ℕ → List A
items_at item next at zero = []
items_at item next at (suc n) = item at ∷ items_at item next (next at) n

-- n words
abbrev pub words_at : List ℕ → ℕ → ℕ → List ℕ
words_at s = items_at (word s) (λ at. at + 1)

abbrev pub vec_at : List ℕ → ℕ → Vec3
vec_at s at = record { x = word s at; y = word s (at + 1); z = word s (at + 2) }

abbrev pub vecs_at : List ℕ → ℕ → ℕ → List Vec3
vecs_at s = items_at (vec_at s) (λ at. at + 3)

-- the two numbers of a word
abbrev pub low16 : ℕ → ℕ
low16 w = w % 65536

abbrev pub high16 : ℕ → ℕ
high16 w = w / 65536

abbrev pub half_at : List ℕ → ℕ → NavEdgeEnd
half_at s at =
    record { area = word s at; poly = word s (at + 1); unk3 = low16 (word s (at + 2)); unk2 = high16 (word s (at + 2)) }

abbrev pub nav_edge_at : List ℕ → ℕ → NavEdge
nav_edge_at s at = record { a = half_at s at; b = half_at s (at + 3) }

abbrev pub edges_at : List ℕ → ℕ → ℕ → List NavEdge
edges_at s = items_at (nav_edge_at s) (λ at. at + 6)

-- where the parts of the polygon at a position are, by where its flags are and by its counts
unfoldable pub layout : ℕ → ℕ → ℕ → ℕ → ℕ → Poly
layout at flags links vertices edges =
    record {
      at = at;
      links = links;
      vertices = vertices;
      edges = edges;
      flags_at = flags;
      link_at = flags + 3;
      vertex_at = flags + 3 + links;
      edge_at = flags + 3 + links + 3 * vertices;
      next = flags + 3 + links + 3 * vertices + 6 * edges;
    }

-- the counts stand in its first word, bits 0-11 vertices, 12-23 edges, 24-27 links; its flags stand behind that word
unfoldable pub poly_at : List ℕ → ℕ → Poly
unfolding layout
poly_at s at = layout at (at + 1) (field 24 4 (word s at)) (field 0 12 (word s at)) (field 12 12 (word s at))

-- the polygon that a cursor stands at
unfoldable pub polygon_of : List ℕ → Poly → NavPoly
polygon_of s p =
    record {
      flags0 = word s p.flags_at;
      flags1 = word s (p.flags_at + 1);
      flags2 = word s (p.flags_at + 2);
      links = words_at s p.link_at p.links;
      vertices = vecs_at s p.vertex_at p.vertices;
      edges = edges_at s p.edge_at p.edges;
    }

abbrev pub polygon_at : List ℕ → ℕ → NavPoly
polygon_at s at = polygon_of s (poly_at s at)

unfoldable pub nav_portal_at : List ℕ → ℕ → NavPortal
nav_portal_at s at =
    record {
      kind = field 0 8 (word s at);
      angle = field 8 8 (word s at);
      flags_unk = word s (at + 1);
      from = vec_at s (at + 2);
      to = vec_at s (at + 5);
      poly_from = low16 (word s (at + 8));
      poly_to = high16 (word s (at + 8));
      area_from = low16 (word s (at + 9));
      area_to = high16 (word s (at + 9));
      area_unk = word s (at + 10);
    }

unfoldable pub point_at : List ℕ → ℕ → NavPoint
point_at s at =
    record { angle = field 0 8 (word s at); kind = field 8 8 (word s at); position = vec_at s (at + 1) }

unfoldable pub head_at : List ℕ → ℕ → Head
head_at s at =
    record {
      content = word s (at + 1);
      area = word s (at + 2);
      version = word s (at + 3);
      vft = word s (at + 4);
      bb_min = vec_at s (at + 5);
      bb_max = vec_at s (at + 8);
      bb_size = vec_at s (at + 11);
    }
