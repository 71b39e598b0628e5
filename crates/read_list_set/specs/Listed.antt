-- The four lists in order, as they are decided on. Definitions only.
use Rattle.std.specs.Prelude.{ℕ, ◌≡◌, List, Result, Ok, Err}
use Rattle.fields.specs.Sizes.{edge_size, index_size, poly_size, vertex_size}
use Rattle.strip.specs.declared.Refusal.{Refusal}
use Rattle.strip.specs.Outcome.{Paper, values, refusal}
use Rattle.read_lists.specs.Lists.{total, table_of, listed}
use Rattle.read_lists.specs.Listed.{Readable}
use Rattle.read_list_set.specs.declared.Limits.{Limits}

-- a list's refusal, or what follows from its count
abbrev pub on_list : Paper ℕ → (ℕ → Paper (Limits × ℕ)) → Paper (Limits × ℕ)
on_list (values n) f = f n
on_list (refusal number place) f = refusal number place

-- vertices, indices, edges, polygons, by their addresses
unfoldable pub lists_of : List ℕ → List ℕ → ℕ → ℕ → ℕ → ℕ → ℕ → Paper (Limits × ℕ)
lists_of system graphics va ia ea pa links =
    on_list (listed system graphics vertex_size va 1) (λ v. on_list (listed system graphics index_size ia 2) (λ i. on_list (listed system graphics edge_size ea 3)
    (λ e. on_list (listed system graphics poly_size pa 4) (λ p. values (record { vertices = v; indices = i; edges = e; links = links }, p)))))

-- the list at an address can be read by its part table, and has n items
pub record ListCounted (system graphics : List ℕ) (size va n : ℕ) : Type 0 where
  pub readable : Readable system graphics size (table_of system graphics va)
  pub count : n ≡ total (table_of system graphics va)

-- so are lists that were accepted
pub record ListsCounted (system graphics : List ℕ) (va ia ea pa links : ℕ) (l : Limits) (n : ℕ) : Type 0 where
  pub vertices : ListCounted system graphics vertex_size va l.vertices
  pub indices : ListCounted system graphics index_size ia l.indices
  pub edges : ListCounted system graphics edge_size ea l.edges
  pub polys : ListCounted system graphics poly_size pa n
  pub link_count : l.links ≡ links

abbrev pub ListsRead : List ℕ → List ℕ → ℕ → ℕ → ℕ → ℕ → ℕ → Result (Limits × ℕ) Refusal → Type 0
ListsRead system graphics va ia ea pa links (Ok a) = ListsCounted system graphics va ia ea pa links a.0 a.1
ListsRead system graphics va ia ea pa links (Err r) = Unit {0}
