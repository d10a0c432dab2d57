-- What was read, and what a fault says of the first annotation.
use Rattle.std.proofs.Common.{◌≡◌, List, true, Option, Some, None, Result, Ok, Err, IfOk, OnOk, refl, ap, sym, subst, ◌∙◌}
use Rattle.std.specs.Prelude.{is_some}
use Rattle.kj_value.specs.Fields.{Pairs, field}
use Rattle.kube_meta.specs.View.{Texts, MetaView, ObjectView}
use Rattle.kept_entries.specs.declared.entry.Entry.{Entry}
use Rattle.kept_entries.specs.Entry.{are_in_order}
use Rattle.kept_entries.specs.Text.{IsKept}
use Rattle.hub_cells.specs.Level.{Name}
use Rattle.keep_laws.specs.Spokes.{Spokes, api_version}
use Rattle.keep_laws.specs.Keys.{hub_key}
use Rattle.keep_laws.specs.Notes.{Spells}
use Rattle.keep_laws.specs.Over.{HubIsRead}
use Rattle.keep_laws.proofs.Carried.{hub_bad}
use Rattle.spoke_keep.specs.declared.fault.KeepFault.{KeepFault}
use Rattle.spoke_keep.specs.declared.fault.KeepFault.TheVariants.{BadKept, NoMemory}
use Rattle.spoke_keep.specs.Fault.{IsBadNote, IsBadAt, IsFaultOf}

pub spells_order : (o : Option Name) (es : List Entry) → Spells o es → are_in_order es ≡ true
spells_order None es h = ap are_in_order h
spells_order (Some t) es h = h.order

spells_read : (o : Option Name) (es : List Entry) (t : Name) → Spells o es → o ≡ Some t → (fs : List Entry) × IsKept t fs
spells_read None es t h e = absurd (cc)
spells_read (Some u) es t h e =
    let same : u ≡ t = cc in
    (es, subst (λ (w : Name). IsKept w es) same h)

-- an annotation that can be read isn't told as a fault
pub no_fault : (o : Option Name) (es : List Entry) (a k : Name) → Spells o es → IsBadNote a k o → ⊥
no_fault None es a k s b = b
no_fault (Some t) es a k s b = b.1 es s

pub hub_read : (own : Option Name) (k : Name) (ns : Texts) (es : List Entry) → k ≡ hub_key → Spells (field k ns) es → HubIsRead own ns
hub_read own k ns es e h = λ side t f. spells_read (field k ns) es t h (ap (λ (j : Name). field j ns) e ∙ f)

pub none_read : (ns : Texts) → HubIsRead None ns
none_read ns = λ side t f. absurd (lies side)
  where
    lies : is_some {T = Name} None ≡ true → ⊥
    lies e = cc

pub hub_fault : (all : Spokes) (n k : Name) (ns : Texts) (e : KeepFault) → k ≡ hub_key → IsBadAt k (field k ns) e → IsFaultOf all (Some n) ns e
hub_fault all n k ns (BadKept a) q bad = by_text (field k ns) refl bad
  where
    by_text : (o : Option Name) → field k ns ≡ o → IsBadNote a.bytes k o → IsFaultOf all (Some n) ns (BadKept a)
    by_text None f b = absurd b
    by_text (Some t) f b = rw (b.0, q) (hub_bad all (Some n) ns t refl (ap (λ (j : Name). field j ns) (sym q) ∙ f) b.1)
hub_fault all n k ns NoMemory q bad = tt

pub if_ok : {A E : Type 0} (P Q : A → Type 0) (r : Result A E) → ((x : A) → P x → Q x) → IfOk r P → IfOk r Q
if_ok P Q (Ok x) f h = f x h
if_ok P Q (Err e) f h = h

pub on_ok : {A E P Q : Type 0} (r : Result A E) → (P → Q) → OnOk r P → OnOk r Q
on_ok (Ok x) f h = f h
on_ok (Err e) f h = h

-- a fact of an object that was made of its parts
pub made_of : (P : ObjectView → Type 0) (o : ObjectView) (v w kind : Name) (m : MetaView) (b : Pairs) → o ≡ record { api_version = v; kind = kind; meta = m; body = b } → v ≡ w → P (record { api_version = w; kind = kind; meta = m; body = b }) → P o
made_of P o v w kind m b e q h = subst P (sym (e ∙ ap (λ (u : Name). record { api_version = u; kind = kind; meta = m; body = b }) q)) h

pub version_of : (a b g n v : Name) → v ≡ api_version a b → a ≡ g → b ≡ n → v ≡ api_version g n
version_of a b g n v e p q = e ∙ ap (λ (u : Name). api_version u b) p ∙ ap (api_version g) q

pub fault_of : (all : Spokes) (n : Option Name) (ns ms : Texts) (e : KeepFault) → ns ≡ ms → IsFaultOf all n ns e → IsFaultOf all n ms e
fault_of all n ns ms e q h = subst (λ (ts : Texts). IsFaultOf all n ts e) q h
