-- The rows of options, as the values that are given.
use Rattle.std.proofs.Common.{◌≡◌, ◌∙◌, ◌≢◌, ◌++◌, ◌==◌, Bool, true, false, List, [], ◌∷◌, Some, None, zero, suc, refl, sym, ap, subst, inl, inr, arith, true≢false, codes}
use Rattle.std.specs.List.{list_any}
use Rattle.std.specs.Str.{bytes_eq}
use Rattle.std.proofs.lemmas.Bool.Decides.{nat_tests}
use Rattle.clap.proofs.CutLemmas.{Lacks}
use Rattle.clap.specs.Walk.{Row, Text, first_of, has_row}
use Rattle.command_lines.specs.Lines.{Flag, crd_flag, rules_flag, hub_flag, converter_flag, to_flag, turns_flag, listen_flag, workers_flag, connections_flag, flag_text, BeginsWithOption, apart, joined, Values, no_values, value_at, with_value, Gives, no_more, one_more}
use Rattle.command_lines.specs.inner.Parsing.{long_options, values_of}
use Rattle.command_lines.proofs.Rows.{Among, first_added, row, same_text}
use Rattle.command_lines.proofs.Walking.{IsName, Takes, take_apart, take_joined, taken}

some≢none : {X : Type 0} (x : X) → Some x ≡ None → ⊥
some≢none x e = true≢false (ap (λ o. Rattle.std.specs.Option.is_some o) e)

-- ---- names

abbrev pub flag_name : Flag → Text
flag_name crd_flag = codes "crd"
flag_name rules_flag = codes "rules"
flag_name hub_flag = codes "hub"
flag_name converter_flag = codes "converter"
flag_name to_flag = codes "to"
flag_name turns_flag = codes "turns"
flag_name listen_flag = codes "listen"
flag_name workers_flag = codes "workers"
flag_name connections_flag = codes "connections"

spelled : (f : Flag) → flag_text f ≡ 45 ∷ 45 ∷ flag_name f
spelled crd_flag = refl
spelled rules_flag = refl
spelled hub_flag = refl
spelled converter_flag = refl
spelled to_flag = refl
spelled turns_flag = refl
spelled listen_flag = refl
spelled workers_flag = refl
spelled connections_flag = refl

among : (f : Flag) → Among (flag_name f) long_options
among crd_flag = inl refl
among rules_flag = inr (inl refl)
among hub_flag = inr (inr (inl refl))
among converter_flag = inr (inr (inr (inl refl)))
among to_flag = inr (inr (inr (inr (inl refl))))
among turns_flag = inr (inr (inr (inr (inr (inl refl)))))
among listen_flag = inr (inr (inr (inr (inr (inr (inl refl))))))
among workers_flag = inr (inr (inr (inr (inr (inr (inr (inl refl)))))))
among connections_flag = inr (inr (inr (inr (inr (inr (inr (inr (inl refl))))))))

named : (n : Text) → Among n long_options → (f : Flag) × (flag_name f ≡ n)
named n (inl same) = (crd_flag, same)
named n (inr (inl same)) = (rules_flag, same)
named n (inr (inr (inl same))) = (hub_flag, same)
named n (inr (inr (inr (inl same)))) = (converter_flag, same)
named n (inr (inr (inr (inr (inl same))))) = (to_flag, same)
named n (inr (inr (inr (inr (inr (inl same)))))) = (turns_flag, same)
named n (inr (inr (inr (inr (inr (inr (inl same))))))) = (listen_flag, same)
named n (inr (inr (inr (inr (inr (inr (inr (inl same)))))))) = (workers_flag, same)
named n (inr (inr (inr (inr (inr (inr (inr (inr (inl same))))))))) = (connections_flag, same)
named n (inr (inr (inr (inr (inr (inr (inr (inr (inr none))))))))) = absurd none

lacks : (xs : Text) → list_any (λ x. x == 61) xs ≡ false → Lacks 61 xs
lacks [] none i lt = absurd (omega (arith, lt))
lacks (x ∷ xs) none zero lt = go (x == 61) refl
  where
    go : (t : Bool) → (x == 61) ≡ t → x ≢ 61
    go true e = absurd (true≢false (rw e at none))
    go false e = grind (arith, nat_tests)
lacks (x ∷ xs) none (suc i) lt = lacks xs (go (x == 61) refl) i (omega (arith, lt))
  where
    go : (t : Bool) → (x == 61) ≡ t → list_any (λ y. y == 61) xs ≡ false
    go true e = absurd (true≢false (rw e at none))
    go false e = rw e at none

flag_legal : (f : Flag) → IsName (flag_name f)
flag_legal crd_flag = lacks (codes "crd") refl
flag_legal rules_flag = lacks (codes "rules") refl
flag_legal hub_flag = lacks (codes "hub") refl
flag_legal converter_flag = lacks (codes "converter") refl
flag_legal to_flag = lacks (codes "to") refl
flag_legal turns_flag = lacks (codes "turns") refl
flag_legal listen_flag = lacks (codes "listen") refl
flag_legal workers_flag = lacks (codes "workers") refl
flag_legal connections_flag = lacks (codes "connections") refl

pub legal : (n : Text) → Among n long_options → IsName n
legal n here = let f = named n here in subst IsName f.1 (flag_legal f.0)

-- ---- rows

first_kept : (id n v : Text) (rows : List Row) → bytes_eq n id ≡ false → first_of id (rows ++ row n v ∷ []) ≡ first_of id rows
first_kept id n v [] other = rw other refl
first_kept id n v (r ∷ rs) other = go (bytes_eq r.id id) refl (first_kept id n v rs other)
  where
    go : (t : Bool) → bytes_eq r.id id ≡ t → first_of id (rs ++ row n v ∷ []) ≡ first_of id rs → first_of id ((r ∷ rs) ++ row n v ∷ []) ≡ first_of id (r ∷ rs)
    go true e later = rw e refl
    go false e later = rw e later

first_new : (n v : Text) (rows : List Row) → has_row n rows ≡ false → first_of n (rows ++ row n v ∷ []) ≡ Some v
first_new n v rows free = first_added n n v rows ∙ rw (free, same_text n) refl

unfound : (id : Text) (rows : List Row) → has_row id rows ≡ false → first_of id rows ≡ None
unfound id [] free = refl
unfound id (r ∷ rs) free = go (bytes_eq r.id id) refl (unfound id rs)
  where
    go : (t : Bool) → bytes_eq r.id id ≡ t → (has_row id rs ≡ false → first_of id rs ≡ None) → first_of id (r ∷ rs) ≡ None
    go true e later = absurd (true≢false (rw e at free))
    go false e later = rw e (later (rw e at free))

has_added : (id n v : Text) (rows : List Row) → has_row id rows ≡ false → bytes_eq n id ≡ false → has_row id (rows ++ row n v ∷ []) ≡ false
has_added id n v [] free other = rw other refl
has_added id n v (r ∷ rs) free other = go (bytes_eq r.id id) refl (has_added id n v rs)
  where
    go : (t : Bool) → bytes_eq r.id id ≡ t → (has_row id rs ≡ false → bytes_eq n id ≡ false → has_row id (rs ++ row n v ∷ []) ≡ false) → has_row id ((r ∷ rs) ++ row n v ∷ []) ≡ false
    go true e later = absurd (true≢false (rw e at free))
    go false e later = rw e (later (rw e at free) other)

-- each row has a value
abbrev IsFull : List Row → Type 0
IsFull rows = (id : Text) → first_of id rows ≡ None → has_row id rows ≡ false

full_added : (n v : Text) (rows : List Row) → IsFull rows → IsFull (rows ++ row n v ∷ [])
full_added n v rows full id e = go (has_row id rows) (bytes_eq n id) refl refl
  where
    go : (s t : Bool) → has_row id rows ≡ s → bytes_eq n id ≡ t → has_row id (rows ++ row n v ∷ []) ≡ false
    go true t h k =
        let old : first_of id rows ≡ None = rw h at (sym (first_added id n v rows) ∙ e) in
        absurd (true≢false (sym h ∙ full id old))
    go false true h k = absurd (some≢none v (rw (h, k) at (sym (first_added id n v rows) ∙ e)))
    go false false h k = has_added id n v rows h k

value_is : (f : Flag) (rows : List Row) → value_at f (values_of rows) ≡ first_of (flag_name f) rows
value_is crd_flag rows = refl
value_is rules_flag rows = refl
value_is hub_flag rows = refl
value_is converter_flag rows = refl
value_is to_flag rows = refl
value_is turns_flag rows = refl
value_is listen_flag rows = refl
value_is workers_flag rows = refl
value_is connections_flag rows = refl

added : (f : Flag) (v : Text) (rows : List Row) → has_row (flag_name f) rows ≡ false → values_of (rows ++ row (flag_name f) v ∷ []) ≡ with_value f v (values_of rows)
added crd_flag v rows free = rw (first_new (codes "crd") v rows free, first_kept (codes "rules") (codes "crd") v rows refl, first_kept (codes "hub") (codes "crd") v rows refl, first_kept (codes "converter") (codes "crd") v rows refl, first_kept (codes "to") (codes "crd") v rows refl, first_kept (codes "turns") (codes "crd") v rows refl, first_kept (codes "listen") (codes "crd") v rows refl, first_kept (codes "workers") (codes "crd") v rows refl, first_kept (codes "connections") (codes "crd") v rows refl) refl
added rules_flag v rows free = rw (first_kept (codes "crd") (codes "rules") v rows refl, first_new (codes "rules") v rows free, first_kept (codes "hub") (codes "rules") v rows refl, first_kept (codes "converter") (codes "rules") v rows refl, first_kept (codes "to") (codes "rules") v rows refl, first_kept (codes "turns") (codes "rules") v rows refl, first_kept (codes "listen") (codes "rules") v rows refl, first_kept (codes "workers") (codes "rules") v rows refl, first_kept (codes "connections") (codes "rules") v rows refl) refl
added hub_flag v rows free = rw (first_kept (codes "crd") (codes "hub") v rows refl, first_kept (codes "rules") (codes "hub") v rows refl, first_new (codes "hub") v rows free, first_kept (codes "converter") (codes "hub") v rows refl, first_kept (codes "to") (codes "hub") v rows refl, first_kept (codes "turns") (codes "hub") v rows refl, first_kept (codes "listen") (codes "hub") v rows refl, first_kept (codes "workers") (codes "hub") v rows refl, first_kept (codes "connections") (codes "hub") v rows refl) refl
added converter_flag v rows free = rw (first_kept (codes "crd") (codes "converter") v rows refl, first_kept (codes "rules") (codes "converter") v rows refl, first_kept (codes "hub") (codes "converter") v rows refl, first_new (codes "converter") v rows free, first_kept (codes "to") (codes "converter") v rows refl, first_kept (codes "turns") (codes "converter") v rows refl, first_kept (codes "listen") (codes "converter") v rows refl, first_kept (codes "workers") (codes "converter") v rows refl, first_kept (codes "connections") (codes "converter") v rows refl) refl
added to_flag v rows free = rw (first_kept (codes "crd") (codes "to") v rows refl, first_kept (codes "rules") (codes "to") v rows refl, first_kept (codes "hub") (codes "to") v rows refl, first_kept (codes "converter") (codes "to") v rows refl, first_new (codes "to") v rows free, first_kept (codes "turns") (codes "to") v rows refl, first_kept (codes "listen") (codes "to") v rows refl, first_kept (codes "workers") (codes "to") v rows refl, first_kept (codes "connections") (codes "to") v rows refl) refl
added turns_flag v rows free = rw (first_kept (codes "crd") (codes "turns") v rows refl, first_kept (codes "rules") (codes "turns") v rows refl, first_kept (codes "hub") (codes "turns") v rows refl, first_kept (codes "converter") (codes "turns") v rows refl, first_kept (codes "to") (codes "turns") v rows refl, first_new (codes "turns") v rows free, first_kept (codes "listen") (codes "turns") v rows refl, first_kept (codes "workers") (codes "turns") v rows refl, first_kept (codes "connections") (codes "turns") v rows refl) refl
added listen_flag v rows free = rw (first_kept (codes "crd") (codes "listen") v rows refl, first_kept (codes "rules") (codes "listen") v rows refl, first_kept (codes "hub") (codes "listen") v rows refl, first_kept (codes "converter") (codes "listen") v rows refl, first_kept (codes "to") (codes "listen") v rows refl, first_kept (codes "turns") (codes "listen") v rows refl, first_new (codes "listen") v rows free, first_kept (codes "workers") (codes "listen") v rows refl, first_kept (codes "connections") (codes "listen") v rows refl) refl
added workers_flag v rows free = rw (first_kept (codes "crd") (codes "workers") v rows refl, first_kept (codes "rules") (codes "workers") v rows refl, first_kept (codes "hub") (codes "workers") v rows refl, first_kept (codes "converter") (codes "workers") v rows refl, first_kept (codes "to") (codes "workers") v rows refl, first_kept (codes "turns") (codes "workers") v rows refl, first_kept (codes "listen") (codes "workers") v rows refl, first_new (codes "workers") v rows free, first_kept (codes "connections") (codes "workers") v rows refl) refl
added connections_flag v rows free = rw (first_kept (codes "crd") (codes "connections") v rows refl, first_kept (codes "rules") (codes "connections") v rows refl, first_kept (codes "hub") (codes "connections") v rows refl, first_kept (codes "converter") (codes "connections") v rows refl, first_kept (codes "to") (codes "connections") v rows refl, first_kept (codes "turns") (codes "connections") v rows refl, first_kept (codes "listen") (codes "connections") v rows refl, first_kept (codes "workers") (codes "connections") v rows refl, first_new (codes "connections") v rows free) refl

-- ---- the words

abbrev Given : List Text → List Row → Values → Type 0
Given words rows after = (more : List Row) × Takes long_options words rows more × (values_of more ≡ after)

starts : (f : Flag) (words : List Text) (v : Text) (rest : List Text) (rows more : List Row) → BeginsWithOption words f v rest → has_row (flag_name f) rows ≡ false
    → Takes long_options rest (rows ++ row (flag_name f) v ∷ []) more → Takes long_options words rows more
starts f words v rest rows more (apart same is) free takes =
    subst (λ (ws : List Text). Takes long_options ws rows more) (sym (same ∙ ap (λ (t : Text). t ∷ v ∷ rest) (spelled f)))
    (take_apart (flag_name f) v rest rows more (among f) free is takes)
starts f words v rest rows more (joined same is) free takes =
    subst (λ (ws : List Text). Takes long_options ws rows more) (sym (same ∙ ap (λ (t : Text). (t ++ 61 ∷ v) ∷ rest) (spelled f)))
    (take_joined (flag_name f) v rest rows more (among f) free is takes)

given : (words : List Text) (before after : Values) (rows : List Row) → Gives words before after → values_of rows ≡ before → IsFull rows → Given words rows after
given words before after rows (no_more values) e full = (rows, taken rows, e)
given words before after rows (one_more ws f v rest first last begins free gives) e full =
    let none = full (flag_name f) (sym (value_is f rows) ∙ ap (value_at f) e ∙ free) in
    let rec = given rest (with_value f v before) after (rows ++ row (flag_name f) v ∷ []) gives (added f v rows none ∙ ap (with_value f v) e) (full_added (flag_name f) v rows full) in
    (rec.0, starts f words v rest rows rec.0 begins none rec.1, rec.2)

pub gives_takes : (words : List Text) (after : Values) → Gives words no_values after → Given words [] after
gives_takes words after gives = given words no_values after [] gives refl (λ id e. refl)

pub same_values : (a b : Values) → a.crd ≡ b.crd → a.rules ≡ b.rules → a.hub ≡ b.hub → a.converter ≡ b.converter → a.to ≡ b.to → a.turns ≡ b.turns
    → a.listen ≡ b.listen → a.workers ≡ b.workers → a.connections ≡ b.connections → a ≡ b
same_values a b crd rules hub converter to turns listen workers connections = λ i. record { crd = crd i; rules = rules i; hub = hub i; converter = converter i; to = to i; turns = turns i; listen = listen i; workers = workers i; connections = connections i }
