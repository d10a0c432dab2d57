-- How one object is put back, and how the objects of a page are.
use Rattle.std.specs.Prelude.{◌≡◌, ◌≢◌, ℕ, suc, List, [], ◌∷◌, ◌++◌}
use Rattle.kj_value.specs.Json.{Json}
use Rattle.kube_meta.specs.Key.{KeyView}
use Rattle.edge_io.specs.Exchanges.{Exchange}
use Rattle.place.specs.Place.{Names}
use Rattle.wire_client.specs.Calls.{gets, puts}
use Rattle.wire_client.specs.Answers.{Reply, given, gone as gone_reply, code}
use Rattle.wire_client.specs.Forms.{fields_of, key_in, number_in}
use Rattle.far_migrate.specs.Counts.{Kind, written, unchanged, gone, contested, Counts, counted, Fault, memory}
use Rattle.far_migrate.specs.Answered.{Did, Asked, conflict, FailsGet, FailsPut}

abbrev pub key_of : Json → KeyView
key_of j = key_in (fields_of j)

-- the text of its number
abbrev pub number_of : Json → List ℕ
number_of j = number_in (fields_of j)

-- what came of an object
pub data Outcome : Type 0 where
  kind : Kind → Outcome
  fault : Fault → Outcome

-- These exchanges put the object of that key back, of which the value is known, in at most so many puts: each as the last answer gave
-- it, and after a put that is refused, since the object has changed, a get.
pub data PutBack (n : Names) (key : KeyView) : ℕ → Json → List Exchange → Outcome → Type 0 where
  same : (left : ℕ) (j k : Json) (e : Exchange) → Did n (puts key j) e (given k) → number_of k ≡ number_of j → PutBack n key (suc left) j (e ∷ []) (kind unchanged)
  other : (left : ℕ) (j k : Json) (e : Exchange) → Did n (puts key j) e (given k) → number_of k ≢ number_of j → PutBack n key (suc left) j (e ∷ []) (kind written)
  nothing : (left : ℕ) (j : Json) (e : Exchange) → Did n (puts key j) e gone_reply → PutBack n key (suc left) j (e ∷ []) (kind gone)
  last : (j : Json) (e : Exchange) → Did n (puts key j) e (code conflict) → PutBack n key 1 j (e ∷ []) (kind contested)
  again : (left : ℕ) (j k : Json) (e f : Exchange) (es : List Exchange) (o : Outcome)
      → Did n (puts key j) e (code conflict) → Did n (gets key) f (given k) → PutBack n key (suc left) k es o → PutBack n key (suc (suc left)) j (e ∷ f ∷ es) o
  lost : (left : ℕ) (j : Json) (e f : Exchange) → Did n (puts key j) e (code conflict) → Did n (gets key) f gone_reply → PutBack n key (suc (suc left)) j (e ∷ f ∷ []) (kind gone)
  put_fails : (left : ℕ) (j : Json) (e : Exchange) (r : Reply) (f : Fault) → Did n (puts key j) e r → FailsPut r f → PutBack n key (suc left) j (e ∷ []) (fault f)
  get_fails : (left : ℕ) (j : Json) (e g : Exchange) (r : Reply) (f : Fault) → Did n (puts key j) e (code conflict) → Did n (gets key) g r → FailsGet r f
      → PutBack n key (suc (suc left)) j (e ∷ g ∷ []) (fault f)
  -- memory was wanted before the put or the get, or once it was answered
  unput : (left : ℕ) (j : Json) → PutBack n key left j [] (fault memory)
  put_unread : (left : ℕ) (j : Json) (e : Exchange) → Asked n (puts key j) e → PutBack n key (suc left) j (e ∷ []) (fault memory)
  ungot : (left : ℕ) (j : Json) (e : Exchange) → Did n (puts key j) e (code conflict) → PutBack n key (suc (suc left)) j (e ∷ []) (fault memory)
  get_unread : (left : ℕ) (j : Json) (e f : Exchange) → Did n (puts key j) e (code conflict) → Asked n (gets key) f → PutBack n key (suc (suc left)) j (e ∷ f ∷ []) (fault memory)

-- an object has four puts
abbrev pub most_puts : ℕ
most_puts = 4

-- what came of the objects of a page: their counts, or a fault
pub data Handled : Type 0 where
  all : Counts → Handled
  failed : Fault → Handled

-- These exchanges put the objects back, one after the other, as the page gave them, up to the first fault.
pub data PutsBack (n : Names) : List Json → Counts → List Exchange → Handled → Type 0 where
  done : (t : Counts) → PutsBack n [] t [] (all t)
  more : (j : Json) (js : List Json) (t : Counts) (k : Kind) (es fs : List Exchange) (h : Handled)
      → PutBack n (key_of j) most_puts j es (kind k) → PutsBack n js (counted k t) fs h → PutsBack n (j ∷ js) t (es ++ fs) h
  fails : (j : Json) (js : List Json) (t : Counts) (f : Fault) (es : List Exchange) → PutBack n (key_of j) most_puts j es (fault f) → PutsBack n (j ∷ js) t es (failed f)
