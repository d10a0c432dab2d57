-- How the logic stores an item of the history: as tuples of its parts, and a case as a place in a sum.
use Rattle.std.specs.Prelude.{◌≡◌, ℕ, ℤ, Bool, List, Option, ◌⊎◌, refl}
use mathlib.Core.Logic.{inl, inr}
use base.Stored.{coded_unit}
use Rattle.std.specs.Coded.{Coded, code_by, coded_ℕ, coded_ℤ, coded_bool, coded_list, coded_option, coded×, coded⊎}
use Rattle.kj_value.specs.Json.{Json}
use Rattle.kj_value.specs.laws.JsonCode.{json_code}
use Rattle.kj_value.specs.Fields.{Pairs}
use Rattle.kube_meta.specs.Key.{KeyView}
use Rattle.kube_meta.specs.View.{Texts, MetaView, ObjectView}
use Rattle.api_calls.specs.declared.flags.Flags.{Flags}
use Rattle.api_calls.specs.Item.{Entry, Create, Replace, Mark, Release, Touch, Delete, SetVersions, Trim, StartMigration, MarkSucceeded, Claim, RangeDone, GiveBack, Item, entry, note, Logged}

abbrev bytes_code : Coded (List ℕ)
bytes_code = coded_list coded_ℕ

abbrev texts_code : Coded Texts
texts_code = coded_list (coded× bytes_code bytes_code)

abbrev key_code : Coded KeyView
key_code = code_by (List ℕ × List ℕ) (coded× bytes_code bytes_code) (λ k. (k.ns, k.name)) (λ p. record { ns = p.0; name = p.1 }) (λ _. refl)

-- the names of an object's metadata, its lists, and what the server keeps
abbrev Names : Type 0
Names = List ℕ × List ℕ

abbrev Lists : Type 0
Lists = Texts × (Texts × (List (List ℕ) × List Json))

abbrev Stamps : Type 0
Stamps = Option (List ℕ) × (Option (List ℕ) × (ℤ × (Option (List ℕ) × Option (List ℕ))))

abbrev meta_code : Coded MetaView
meta_code = code_by (Names × (Lists × Stamps))
    (coded× (coded× bytes_code bytes_code) (coded×
    (coded× texts_code (coded× texts_code (coded× (coded_list bytes_code) (coded_list json_code))))
    (coded× (coded_option bytes_code) (coded× (coded_option bytes_code) (coded× coded_ℤ (coded× (coded_option bytes_code) (coded_option bytes_code)))))))
    (λ m. ((m.name, m.namespace), ((m.labels, (m.annotations, (m.finalizers, m.owners))), (m.created, (m.deleted, (m.generation, (m.resource_version, m.uid)))))))
    (λ t. record {
      name = t.0.0;
      namespace = t.0.1;
      labels = t.1.0.0;
      annotations = t.1.0.1.0;
      finalizers = t.1.0.1.1.0;
      owners = t.1.0.1.1.1;
      created = t.1.1.0;
      deleted = t.1.1.1.0;
      generation = t.1.1.1.1.0;
      resource_version = t.1.1.1.1.1.0;
      uid = t.1.1.1.1.1.1;
    })
    (λ _. refl)

abbrev object_code : Coded ObjectView
object_code = code_by (Names × (MetaView × Pairs))
    (coded× (coded× bytes_code bytes_code) (coded× meta_code (coded_list (coded× bytes_code json_code))))
    (λ o. ((o.api_version, o.kind), (o.meta, o.body)))
    (λ t. record { api_version = t.0.0; kind = t.0.1; meta = t.1.0; body = t.1.1 })
    (λ _. refl)

abbrev flags_code : Coded Flags
flags_code = code_by (List Bool × ℕ) (coded× (coded_list coded_bool) coded_ℕ) (λ f. (f.served, f.storage)) (λ t. record { served = t.0; storage = t.1 }) (λ _. refl)

-- the cases of an entry: writes of a value, writes at a number, and what the definition's state says
abbrev Valued : Type 0
Valued = (KeyView × (ObjectView × ℕ)) ⊎ ((KeyView × ℕ) × (ObjectView × ℕ))

abbrev Placed : Type 0
Placed = ((KeyView × ℕ) × List ℕ) ⊎ ((KeyView × ℕ) ⊎ ((KeyView × ℕ) ⊎ KeyView))

abbrev Set : Type 0
Set = Flags ⊎ (List ℕ ⊎ (List ℕ ⊎ Unit {0}))

abbrev Cases : Type 0
Cases = Valued ⊎ (Placed ⊎ Set)

abbrev cases_code : Coded Cases
cases_code = coded⊎
    (coded⊎ (coded× key_code (coded× object_code coded_ℕ)) (coded× (coded× key_code coded_ℕ) (coded× object_code coded_ℕ)))
    (coded⊎
    (coded⊎ (coded× (coded× key_code coded_ℕ) bytes_code) (coded⊎ (coded× key_code coded_ℕ) (coded⊎ (coded× key_code coded_ℕ) key_code)))
    (coded⊎ flags_code (coded⊎ bytes_code (coded⊎ bytes_code coded_unit))))

abbrev cases : Entry → Cases
cases (Create k h w) = inl (inl (k, (h, w)))
cases (Replace k over h w) = inl (inr ((k, over), (h, w)))
cases (Mark k at stamp) = inr (inl (inl ((k, at), stamp)))
cases (Release k at) = inr (inl (inr (inl (k, at))))
cases (Touch k claim) = inr (inl (inr (inr (inl (k, claim)))))
cases (Delete k) = inr (inl (inr (inr (inr k))))
cases (SetVersions f) = inr (inr (inl f))
cases (Trim keep) = inr (inr (inr (inl keep)))
cases (StartMigration name) = inr (inr (inr (inr (inl name))))
cases MarkSucceeded = inr (inr (inr (inr (inr tt))))

abbrev entry_back : Cases → Entry
entry_back (inl (inl c)) = Create c.0 c.1.0 c.1.1
entry_back (inl (inr c)) = Replace c.0.0 c.0.1 c.1.0 c.1.1
entry_back (inr (inl (inl c))) = Mark c.0.0 c.0.1 c.1
entry_back (inr (inl (inr (inl c)))) = Release c.0 c.1
entry_back (inr (inl (inr (inr (inl c))))) = Touch c.0 c.1
entry_back (inr (inl (inr (inr (inr c))))) = Delete c
entry_back (inr (inr (inl c))) = SetVersions c
entry_back (inr (inr (inr (inl c)))) = Trim c
entry_back (inr (inr (inr (inr (inl c))))) = StartMigration c
entry_back (inr (inr (inr (inr (inr c))))) = MarkSucceeded

pub entry_back-cases : (e : Entry) → entry_back (cases e) ≡ e
entry_back-cases (Create k h w) = refl
entry_back-cases (Replace k over h w) = refl
entry_back-cases (Mark k at stamp) = refl
entry_back-cases (Release k at) = refl
entry_back-cases (Touch k claim) = refl
entry_back-cases (Delete k) = refl
entry_back-cases (SetVersions f) = refl
entry_back-cases (Trim keep) = refl
entry_back-cases (StartMigration name) = refl
entry_back-cases MarkSucceeded = refl

abbrev says : Item → Entry ⊎ (ℕ ⊎ (ℕ ⊎ ℕ))
says (entry e) = inl e
says (note (Claim n)) = inr (inl n)
says (note (RangeDone n)) = inr (inr (inl n))
says (note (GiveBack n)) = inr (inr (inr n))

abbrev item_back : Entry ⊎ (ℕ ⊎ (ℕ ⊎ ℕ)) → Item
item_back (inl e) = entry e
item_back (inr (inl n)) = note (Claim n)
item_back (inr (inr (inl n))) = note (RangeDone n)
item_back (inr (inr (inr n))) = note (GiveBack n)

pub item_back-says : (i : Item) → item_back (says i) ≡ i
item_back-says (entry e) = refl
item_back-says (note (Claim n)) = refl
item_back-says (note (RangeDone n)) = refl
item_back-says (note (GiveBack n)) = refl

abbrev item_code : Coded Item
item_code = code_by (Entry ⊎ (ℕ ⊎ (ℕ ⊎ ℕ))) (coded⊎ (code_by Cases cases_code cases entry_back entry_back-cases) (coded⊎ coded_ℕ (coded⊎ coded_ℕ coded_ℕ))) says item_back item_back-says

abbrev pub logged_code : Coded Logged
logged_code = code_by (ℕ × (ℕ × Item)) (coded× coded_ℕ (coded× coded_ℕ item_code)) (λ l. (l.by, (l.nth, l.item))) (λ t. record { by = t.0; nth = t.1.0; item = t.1.1 }) (λ _. refl)
