-- The walk over one node, group by group.
use Rattle.std.proofs.Common.{◌≡◌, ℕ, List, ◌++◌, Bool, Option, None}
use Rattle.kj_value.specs.Json.{Members}
use Rattle.struct_schema.specs.Names.{value_at}
use Rattle.struct_schema.specs.Shape.{Own, Shape, shape, MaybeShapes, MaybeShape}
use Rattle.struct_schema.specs.declared.kind.NodeKind.{NodeKind}
use Rattle.schema_reading.specs.Words.{word}
use Rattle.schema_reading.specs.Visit.{Visit, first}
use Rattle.schema_reading.specs.Visits.{additional_visits, items_visits, type_visits, inner_visits, map_visits, default_visits}
use Rattle.schema_reading.specs.Told.{StopsSchemaReading, Passes}
use Rattle.schema_reading.specs.declared.words.Keyword.TheVariants.{Additional, Default, Items as ItemsWord}
use Rattle.schema_reading.specs.declared.trouble.Stop.{Stop}
use Rattle.schema_reading.proofs.Passing.{passes-append, passes-keywords, stops-first, stops-then, stops-keywords}
use Rattle.schema_reading.proofs.Parts.{keywords-additional, keywords-items, keywords-type, keywords-default}

abbrev pub G1 : Option NodeKind → ℕ → Members → List Visit
G1 k d ms = additional_visits k ms ++ inner_visits Additional d ms

abbrev pub G2 : Option NodeKind → ℕ → Members → List Visit
G2 k d ms = items_visits k ms ++ inner_visits ItemsWord d ms

abbrev pub Last : Bool → Shape → Members → List Visit
Last root s ms = default_visits root s (value_at (word Default) ms)

abbrev pub object_by : Option NodeKind → Shape → Bool → ℕ → Members → List Visit
object_by k s root d ms =
    G1 k d ms ++ (G2 k d ms ++ (type_visits root k ms ++ (map_visits root d ms ++ Last root s ms)))

module _ (k : Option NodeKind) (s : Shape) (root : Bool) (d : ℕ) (ms : Members) where
  pub pass_1 : (n m : ℕ) → first 0 (additional_visits k ms) ≡ None → Passes n m (inner_visits Additional d ms) → Passes n m (G1 k d ms)
  pass_1 n m e p =
      passes-append n n m (additional_visits k ms) (inner_visits Additional d ms) (passes-keywords n (additional_visits k ms) (keywords-additional k ms) e) p

  pub pass_2 : (n m : ℕ) → first 0 (items_visits k ms) ≡ None → Passes n m (inner_visits ItemsWord d ms) → Passes n m (G2 k d ms)
  pass_2 n m e p =
      passes-append n n m (items_visits k ms) (inner_visits ItemsWord d ms) (passes-keywords n (items_visits k ms) (keywords-items k ms) e) p

  pub stop_additional : (n : ℕ) (e : Stop) → StopsSchemaReading (first 0 (additional_visits k ms)) e → StopsSchemaReading (first n (object_by k s root d ms)) e
  stop_additional n e h =
      stops-first n (G1 k d ms) (G2 k d ms ++ (type_visits root k ms ++ (map_visits root d ms ++ Last root s ms))) e (stops-first n (additional_visits k ms) (inner_visits Additional d ms) e (stops-keywords n (additional_visits k ms) e (keywords-additional k ms) h))

  pub stop_inner : (n : ℕ) (e : Stop) → first 0 (additional_visits k ms) ≡ None → StopsSchemaReading (first n (inner_visits Additional d ms)) e → StopsSchemaReading (first n (object_by k s root d ms)) e
  stop_inner n e a h =
      stops-first n (G1 k d ms) (G2 k d ms ++ (type_visits root k ms ++ (map_visits root d ms ++ Last root s ms))) e (stops-then n n (additional_visits k ms) (inner_visits Additional d ms) e (passes-keywords n (additional_visits k ms) (keywords-additional k ms) a) h)

  pub stop_items : (n m : ℕ) (e : Stop) → Passes n m (G1 k d ms) → StopsSchemaReading (first 0 (items_visits k ms)) e → StopsSchemaReading (first n (object_by k s root d ms)) e
  stop_items n m e p h =
      stops-then n m (G1 k d ms) (G2 k d ms ++ (type_visits root k ms ++ (map_visits root d ms ++ Last root s ms))) e p (stops-first m (G2 k d ms) (type_visits root k ms ++ (map_visits root d ms ++ Last root s ms)) e (stops-first m (items_visits k ms) (inner_visits ItemsWord d ms) e (stops-keywords m (items_visits k ms) e (keywords-items k ms) h)))

  pub stop_element : (n m : ℕ) (e : Stop) → Passes n m (G1 k d ms) → first 0 (items_visits k ms) ≡ None → StopsSchemaReading (first m (inner_visits ItemsWord d ms)) e → StopsSchemaReading (first n (object_by k s root d ms)) e
  stop_element n m e p b h =
      stops-then n m (G1 k d ms) (G2 k d ms ++ (type_visits root k ms ++ (map_visits root d ms ++ Last root s ms))) e p (stops-first m (G2 k d ms) (type_visits root k ms ++ (map_visits root d ms ++ Last root s ms)) e (stops-then m m (items_visits k ms) (inner_visits ItemsWord d ms) e (passes-keywords m (items_visits k ms) (keywords-items k ms) b) h))

  pub stop_type : (n m l : ℕ) (e : Stop) → Passes n m (G1 k d ms) → Passes m l (G2 k d ms) → StopsSchemaReading (first 0 (type_visits root k ms)) e → StopsSchemaReading (first n (object_by k s root d ms)) e
  stop_type n m l e p q h =
      stops-then n m (G1 k d ms) (G2 k d ms ++ (type_visits root k ms ++ (map_visits root d ms ++ Last root s ms))) e p (stops-then m l (G2 k d ms) (type_visits root k ms ++ (map_visits root d ms ++ Last root s ms)) e q (stops-first l (type_visits root k ms) (map_visits root d ms ++ Last root s ms) e (stops-keywords l (type_visits root k ms) e (keywords-type root k ms) h)))

  pub stop_map : (n m l : ℕ) (e : Stop) → Passes n m (G1 k d ms) → Passes m l (G2 k d ms) → first 0 (type_visits root k ms) ≡ None → StopsSchemaReading (first l (map_visits root d ms)) e → StopsSchemaReading (first n (object_by k s root d ms)) e
  stop_map n m l e p q t h =
      stops-then n m (G1 k d ms) (G2 k d ms ++ (type_visits root k ms ++ (map_visits root d ms ++ Last root s ms))) e p (stops-then m l (G2 k d ms) (type_visits root k ms ++ (map_visits root d ms ++ Last root s ms)) e q (stops-then l l (type_visits root k ms) (map_visits root d ms ++ Last root s ms) e (passes-keywords l (type_visits root k ms) (keywords-type root k ms) t) (stops-first l (map_visits root d ms) (Last root s ms) e h)))

  pub stop_default : (n m l j : ℕ) (e : Stop) → Passes n m (G1 k d ms) → Passes m l (G2 k d ms) → first 0 (type_visits root k ms) ≡ None → Passes l j (map_visits root d ms) → StopsSchemaReading (first 0 (Last root s ms)) e → StopsSchemaReading (first n (object_by k s root d ms)) e
  stop_default n m l j e p q t r h =
      stops-then n m (G1 k d ms) (G2 k d ms ++ (type_visits root k ms ++ (map_visits root d ms ++ Last root s ms))) e p (stops-then m l (G2 k d ms) (type_visits root k ms ++ (map_visits root d ms ++ Last root s ms)) e q (stops-then l l (type_visits root k ms) (map_visits root d ms ++ Last root s ms) e (passes-keywords l (type_visits root k ms) (keywords-type root k ms) t) (stops-then l j (map_visits root d ms) (Last root s ms) e r (stops-keywords j (Last root s ms) e (keywords-default root s (value_at (word Default) ms)) h))))

  pub pass_all : (n m l j : ℕ) → Passes n m (G1 k d ms) → Passes m l (G2 k d ms) → first 0 (type_visits root k ms) ≡ None → Passes l j (map_visits root d ms) → first 0 (Last root s ms) ≡ None → Passes n j (object_by k s root d ms)
  pass_all n m l j p q t r h =
      passes-append n m j (G1 k d ms) (G2 k d ms ++ (type_visits root k ms ++ (map_visits root d ms ++ Last root s ms))) p (passes-append m l j (G2 k d ms) (type_visits root k ms ++ (map_visits root d ms ++ Last root s ms)) q (passes-append l l j (type_visits root k ms) (map_visits root d ms ++ Last root s ms) (passes-keywords l (type_visits root k ms) (keywords-type root k ms) t) (passes-append l j j (map_visits root d ms) (Last root s ms) r (passes-keywords j (Last root s ms) (keywords-default root s (value_at (word Default) ms)) h))))

pub same_parts : (o p : Own) (ps qs : MaybeShapes) (a b i j : MaybeShape) → o ≡ p → ps ≡ qs → a ≡ b → i ≡ j → shape o ps a i ≡ shape p qs b j
same_parts o p ps qs a b i j e f g h = cc
