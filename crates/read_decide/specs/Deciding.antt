-- What deciding hands on: answers, places in the pages, parts of the strip, and what is known of a cell that passed. Definitions only.
use Rattle.std.specs.Prelude.{ℕ, ◌*◌, ◌^◌, ◌≤◌, ◌<◌, ◌≡◌, List, map, length, Result, Ok, Err}
use Rattle.fields.specs.Bytes.{le_at, cut}
use Rattle.fields.specs.Sizes.{edge_size, index_size, poly_size, portal_size, vertex_size}
use Rattle.resource.specs.Section.{resolved}
use Rattle.strip.specs.declared.Reason.{Reason}
use Rattle.strip.specs.declared.Refusal.{Refusal}
use Rattle.strip.specs.Reasons.{reason_number}
use Rattle.strip.specs.Outcome.{Paper, refusal, values}
use Rattle.strip.specs.Cell.{each, polygon_words, portal_words}
use Rattle.read_grammar.specs.Derives.{back_of, portal_of}
use Rattle.read_lists.specs.Lists.{table_of}
use Rattle.read_lists.specs.Listed.{Readable}
use Rattle.read_polygons.specs.Polygons.{polygon_made}
use Rattle.read_decide.specs.declared.Parsed.{Parsed}
use Rattle.read_decide.specs.declared.ListAddresses.{ListAddresses}
use Rattle.read_decide.specs.Reading.{Reading, made, refused, header, root, head, source, polygons, portal_count, portals, on_lists}
use Rattle.read_decide.specs.Answer.{counts_of}

-- what the answer on a reading says, if the strip is long enough
abbrev pub answer_of : Reading → Paper Parsed
answer_of (made c sectors) = values (counts_of c sectors)
answer_of (refused number place) = refusal number place

-- a run of checks, before the rest
abbrev pub passed_then : Result (Unit {0}) Reason → Reading → Reading
passed_then (Ok u) rest = rest
passed_then (Err reason) rest = refused (reason_number reason) 0

-- where the lists are
unfoldable pub addresses : List ℕ → ListAddresses
addresses h = record { vertices = le_at 8 h 0x70; indices = le_at 8 h 0x80; edges = le_at 8 h 0x88; polygons = le_at 8 h 0x118 }

module _ (system graphics : List ℕ) where
  -- header and root as they were looked up
  pub record HeaderRoot (h r : List ℕ) : Type 0 where
    pub header_is : h ≡ header system graphics
    pub root_is : r ≡ root system graphics

  -- the bytes of the link table
  unfoldable pub link_bytes : List ℕ
  link_bytes = resolved system graphics (le_at 8 (header system graphics) 0x130) (2 * le_at 4 (header system graphics) 0x150)

  -- the words of the polygons, and of the portals
  unfoldable pub polys_words : List ℕ
  polys_words = each polygon_words (map (polygon_made (source system graphics)) (polygons system graphics))

  unfoldable pub portals_words : List ℕ
  portals_words = each portal_words (map (portal_of (back_of (head system graphics))) (cut portal_size (portal_count system graphics) (portals system graphics)))

  -- the lists can be read by their part tables
  pub record ListsReady : Type 0 where
    pub vertices : Readable system graphics vertex_size (table_of system graphics (le_at 8 (header system graphics) 0x70))
    pub indices : Readable system graphics index_size (table_of system graphics (le_at 8 (header system graphics) 0x80))
    pub edges : Readable system graphics edge_size (table_of system graphics (le_at 8 (header system graphics) 0x88))
    pub polygons : Readable system graphics poly_size (table_of system graphics (le_at 8 (header system graphics) 0x118))

  abbrev pub ReadyFor : (Result Parsed Refusal) → Type 0
  ReadyFor (Ok p) = ListsReady
  ReadyFor (Err r) = Unit {0}

  -- lists and polygons passed their checks, with so many words and polygons
  pub record Tallied (words count : ℕ) : Type 0 where
    pub passes : (rest : Reading) → on_lists system graphics rest ≡ rest
    pub ready : ListsReady
    pub count_is : count ≡ length (polygons system graphics)
    pub words_are : words ≡ length polys_words
    pub few : count < 2 ^ 32
    pub small : words ≤ 18434 * count

  abbrev pub ListsChecked : Result (ℕ × ℕ) Refusal → Type 0
  ListsChecked (Ok a) = Tallied a.0 a.1
  ListsChecked (Err r) = (rest : Reading) → on_lists system graphics rest ≡ refused (reason_number r.reason) r.place
