-- A request is admitted in one way or refused, and not both.
use Rattle.std.proofs.Common.{◌≡◌, ◌∙◌, ℕ, ◌<◌, ◌≤◌, List, [], ◌∷◌, ◌++◌, Option, Some, None, Bool, true, false, bytes_eq, subst, ap, ap₂, sym, refl, arith}
use Rattle.std.specs.Prelude.{◌&&◌, not, IsSome, IfSome, ◌↔◌, is_some, option_map, nat_le, codes, if◌then◌else◌}
use Rattle.std.proofs.lemmas.Bool.Decides.{nat_tests}
use Rattle.std.proofs.lemmas.Slice.Eq.{bytes_eq-Decides}
use Rattle.std.specs.Str.Parse.{digits_value}
use Rattle.serde_json.specs.Data as serde
use Rattle.kj_value.specs.Json.{Json, null, boolean, whole, text, list, object, Members, member, members_of}
use Rattle.kj_value.specs.Reading.{Reads, IsReading, json_of}
use Rattle.kj_value.specs.Fields.{Pairs, field}
use Rattle.kj_value.specs.KindLaws.{members_pairs}
use Rattle.kj_value.specs.declared.rule.Rule.TheVariants as rule
use Rattle.kube_meta.specs.View.{MetaView, ObjectView}
use Rattle.struct_schema.specs.Shape.{Shape}
use Rattle.struct_schema.specs.Filled.{Filled}
use Rattle.struct_schema.specs.Fault as check
use Rattle.object_reading.specs.Fields.{pairs_of, given}
use Rattle.object_reading.specs.Parts.{text_or_empty, meta_in, object_in}
use Rattle.object_reading.specs.Refusal.{is_given_text}
use Rattle.api_calls.specs.Cause.{CauseView, not_json, too_deep, not_whole, not_object, wrong_version, wrong_kind, wrong_namespace, wrong_name, bad_query, bad_token, bad_options}
use Rattle.api_calls.specs.Meaning.{Request, Fault, bad_request, invalid}
use Rattle.api_calls.specs.Versions.{IsAdmitted, AdmitsWhole, DecidesAdmission, DecidesEach, RefusesUnread}
use Rattle.api_calls.specs.declared.versions.TheConstants.{OBJECT_LEVELS}
use Rattle.hub_cells.specs.Level.{Name}
use Rattle.keep_laws.specs.Spokes.{Spokes}
use Rattle.keep_laws.specs.Notes.{without_notes}
use Rattle.crd_meaning.specs.Definition.{Definition, Seat, at_hub, at_spoke, nowhere, seat, IsLoaded}
use Rattle.crd_meaning.specs.Objects.{PairsAt, IsFormAt}
use Rattle.crd_meaning.specs.Request.{Judged, first_there, breaks, given_name, meta_fields, metadata_rows, number_rows, number_text, later_rows, is_named_so, version_row, kind_row, namespace_row, name_row, rows, early, placed, expected_of, number_path, IsTaken}
use Rattle.crd_meaning.specs.Admission.{schema_of, IsFilling, Passes, IsUnread, LeftAt, IsHubOf, Admits}
use Rattle.crd_meaning.specs.Refusal.{IsNoValue, cause_at, broken_at, annotation_prefix, object_path, RefusesRequest, no_value, is_early, is_broken, badly_kept, too_large}
use Rattle.crd_meaning.specs.Meant.{Settings, meaning_of}
use Rattle.crd_meaning.specs.Given.{Given}
use Rattle.crd_meaning.proofs.Forms.{only_hub, one_left}

-- ---- bytes read as one value

one_data : (bytes : List ℕ) (d e : serde.Data) → IsReading bytes d → IsReading bytes e → d ≡ e
one_data bytes d e a b = let same : Some d ≡ Some e = sym a.1 ∙ b.1 in cc

one_json : (bytes : List ℕ) (i j : Json) → Reads bytes OBJECT_LEVELS i → Reads bytes OBJECT_LEVELS j → i ≡ j
one_json bytes i j a b =
    let same : Some i ≡ Some j = sym a.3 ∙ ap json_of (one_data bytes a.0 b.0 a.1 b.1) ∙ b.3 in cc

pub some_none : {A : Type 0} (o : Option A) (x : A) → o ≡ Some x → o ≡ None → ⊥
some_none o x p q = let e : Some x ≡ None = sym p ∙ q in cc

-- ---- an object's fields are those of its list

member_rest : (k l : List ℕ) (i j : Json) (ms ns : Members) → member k i ms ≡ member l j ns → ms ≡ ns
member_rest k l i j ms ns e = cc

member_first : (k l : List ℕ) (i j : Json) (ms ns : Members) → member k i ms ≡ member l j ns → (k ≡ l) × (i ≡ j)
member_first k l i j ms ns e = (cc, cc)

members_one : (es fs : Pairs) → members_of es ≡ members_of fs → es ≡ fs
members_one [] [] e = refl
members_one [] (f ∷ fs) e = cc
members_one (p ∷ es) [] e = cc
members_one (p ∷ es) (q ∷ fs) e =
    let first = member_first _ _ _ _ _ _ e in
    ap (λ (k : List ℕ). (k, p.1) ∷ es) first.0 ∙ ap (λ (j : Json). (q.0, j) ∷ es) first.1 ∙ ap (λ (r : Pairs). q ∷ r) (members_one es fs (member_rest _ _ _ _ _ _ e))

object_one : (es fs : Pairs) → object (members_of es) ≡ object (members_of fs) → es ≡ fs
object_one es fs e = members_one es fs (inside (members_of es) (members_of fs) e)
  where
    inside : (ms ns : Members) → object ms ≡ object ns → ms ≡ ns
    inside ms ns e = cc

-- ---- rows of the table

head_none : (f : Fault × Bool) (fs : Judged) → first_there (f ∷ fs) ≡ None → (f.1 ≡ false) × (first_there fs ≡ None)
head_none f fs e = by_test f.1 e
  where
    by_test : (b : Bool) → (if b then Some f.0 else first_there fs) ≡ None → (b ≡ false) × (first_there fs ≡ None)
    by_test true e = absurd (cc)
    by_test false e = (refl, e)

behind_none : (fs gs : Judged) → first_there (fs ++ gs) ≡ None → first_there gs ≡ None
behind_none [] gs e = e
behind_none (f ∷ fs) gs e = behind_none fs gs (head_none f (fs ++ gs) e).1

not_false : (b : Bool) → not b ≡ false → b ≡ true
not_false true e = refl
not_false false e = cc

given_text : (kind : List ℕ → Bool) (o : Option Json) → is_given_text kind (given o) ≡ true → kind (text_or_empty o) ≡ true
given_text kind None e = absurd (cc)
given_text kind (Some null) e = absurd (cc)
given_text kind (Some (boolean b)) e = absurd (cc)
given_text kind (Some (whole z)) e = absurd (cc)
given_text kind (Some (text s)) e = e
given_text kind (Some (list js)) e = absurd (cc)
given_text kind (Some (object ms)) e = absurd (cc)

named_so : (n : Option (List ℕ)) (o : Option Json) → is_named_so n (given o) ≡ true → IfSome n (λ m. text_or_empty o ≡ m)
named_so None o e = tt
named_so (Some n) o e = (bytes_eq-Decides (text_or_empty o) n).0 (given_text (λ s. bytes_eq s n) o e)

numbered : (name number : Option (List ℕ)) → (not (is_some name) && is_some number) ≡ false → (is_some name && not (is_some number)) ≡ false → IsSome (option_map (digits_value 10) number) ↔ IsSome name
numbered None None p q = ((λ h. h), (λ h. h))
numbered None (Some s) p q = absurd (cc)
numbered (Some n) None p q = absurd (cc)
numbered (Some n) (Some s) p q = ((λ h. refl), (λ h. refl))

abbrev pub SaysSo : Request → Json → Type 0
SaysSo r j = IfSome r.name (λ n. (object_in j).meta.name ≡ n) × (IsSome (expected_of (object_in j)) ↔ IsSome r.name)

module _ (d : Definition) (r : Request) where
  fields_say : (ms : Members) → first_there (rows d r (pairs_of ms)) ≡ None → SaysSo r (object ms)
  unfolding meta_in
  fields_say ms e =
      let es = pairs_of ms in
      let v = head_none (version_row d r es) (kind_row d es ∷ namespace_row r es ∷ name_row r es ∷ later_rows r es) e in
      let k = head_none (kind_row d es) (namespace_row r es ∷ name_row r es ∷ later_rows r es) v.1 in
      let s = head_none (namespace_row r es) (name_row r es ∷ later_rows r es) k.1 in
      let n = head_none (name_row r es) (later_rows r es) s.1 in
      let name = given_name es in
      let replaces = is_some r.name in
      let number = is_some (number_text es) in
      let later = behind_none (metadata_rows es) (number_rows name replaces number) n.1 in
      let f = head_none (breaks name number_path rule.Forbidden, not replaces && number) ((breaks name number_path rule.Required, replaces && not number) ∷ []) later in
      let q = head_none (breaks name number_path rule.Required, replaces && not number) [] f.1 in
      (named_so r.name (field (codes "name") (meta_fields es)) (not_false _ n.0), numbered r.name (number_text es) f.0 q.0)

  pub says : (j : Json) → early d r j ≡ None → SaysSo r j
  says null e = absurd (cc)
  says (boolean b) e = absurd (cc)
  says (whole z) e = absurd (cc)
  says (text s) e = absurd (cc)
  says (list js) e = absurd (cc)
  says (object ms) e = fields_say ms e

  pub taken_one : (x y : ObjectView) (e f : Option ℕ) → IsTaken d r x e → IsTaken d r y f → (x ≡ y) × (e ≡ f)
  taken_one x y e f a b =
      let same = one_json r.bytes a.value b.value a.reads b.reads in
      (a.object ∙ ap (λ (j : Json). placed r.ns (object_in j)) same ∙ sym b.object, a.number ∙ ap (λ (j : Json). expected_of (object_in j)) same ∙ sym b.number)

pub if_some_along : (o : Option (List ℕ)) (a b : List ℕ) → a ≡ b → IfSome o (λ n. b ≡ n) → IfSome o (λ n. a ≡ n)
if_some_along None a b e h = tt
if_some_along (Some n) a b e h = e ∙ h

meta_same : (all : Spokes) (z : Seat) (x y h : ObjectView) → LeftAt all z x y → PairsAt all z h y → without_notes h.meta ≡ without_notes x.meta
meta_same all at_hub x y h s p = ap (λ (w : ObjectView). without_notes w.meta) (sym p) ∙ s.rest.meta
meta_same all (at_spoke t) x y h s p = sym p.1.meta ∙ s.pair.meta ∙ s.over.meta
meta_same all nowhere x y h s p = absurd p

module _ (known : Given) (d : Definition) where
  filling_one : (s : Shape) (x y k l : Pairs) → x ≡ y → IsFilling s x k → IsFilling s y l → k ≡ l
  filling_one s x y k l e f g =
      let other : Filled s (object (members_of x)) (object (members_of l)) = subst (λ (b : Pairs). Filled s (object (members_of b)) (object (members_of l))) (sym e) g.filled in
      object_one k l (known.filling s (object (members_of x)) (object (members_of k)) (object (members_of l)) f.sound g.sound f.filled other)

  pub passes_one : (r : Request) (x y : ObjectView) (e f : Option ℕ) → Passes d r x e → Passes d r y f → (x ≡ y) × (e ≡ f)
  passes_one r x y e f a b =
      let t = taken_one d r a.taken b.taken e f a.is b.is in
      let k = filling_one (schema_of d r) a.taken.body b.taken.body x.body y.body (ap (λ (w : ObjectView). w.body) t.0) a.filling b.filling in
      (a.rest ∙ ap₂ (λ (w : ObjectView) (body : Pairs). record w { body = body }) t.0 k ∙ sym b.rest, t.1)

pub none_broken : (s : Shape) (k : Pairs) (c : CauseView) → check.fault s (object (members_of k)) ≡ None → broken_at s k ≡ Some c → ⊥
none_broken s k c p q = some_none (broken_at s k) c q (ap (option_map cause_at) p)

module _ (known : Given) (o : Settings) (d : Definition) (loaded : IsLoaded d) where
  pub hub_one : (v : ℕ) (x g h : ObjectView) → IsHubOf d v x g → IsHubOf d v x h → g ≡ h
  hub_one v x g h a b =
      let same = one_left known d loaded v x a.left b.left a.settles b.settles in
      only_hub known d loaded v g h b.left a.whole b.whole (subst (λ (y : ObjectView). IsFormAt d v g y) same a.pairs) b.pairs

  pub admitted : (r : Request) (h : ObjectView) (e : Option ℕ) → Admits d r h e → IsAdmitted (meaning_of d o) r h e
  admitted r h e a =
      let p = a.passes in
      let j = p.is.value in
      let said = says d r p.is.value p.is.nothing in
      let meta : without_notes h.meta ≡ without_notes (placed r.ns (object_in p.is.value)).meta =
      meta_same d.spokes (seat d r.version) a.object a.hub.left h a.hub.settles a.hub.pairs ∙ ap (λ (w : ObjectView). without_notes w.meta) p.rest ∙ ap (λ (w : ObjectView). without_notes w.meta) p.is.object in record {
        namespace = ap (λ (m : MetaView). m.namespace) meta;
        name = if_some_along r.name h.meta.name (object_in p.is.value).meta.name (ap (λ (m : MetaView). m.name) meta) said.0;
        expected = subst (λ (f : Option ℕ). IsSome f ↔ IsSome r.name) (sym p.is.number) said.1;
        whole = a.hub.whole;
        created = ap (λ (m : MetaView). m.created) meta;
        deleted = ap (λ (m : MetaView). m.deleted) meta;
        generation = ap (λ (m : MetaView). m.generation) meta;
      }

  one : (r : Request) (g h : ObjectView) (e f : Option ℕ) → Admits d r g e → Admits d r h f → (g ≡ h) × (e ≡ f)
  one r g h e f a b =
      let same = passes_one known d r a.object b.object e f a.passes b.passes in
      (hub_one r.version b.object g h (subst (λ (x : ObjectView). IsHubOf d r.version x g) same.0 a.hub) b.hub, same.1)

  -- ---- not both

  excludes_value : (r : Request) (h : ObjectView) (e : Option ℕ) (f : Fault) → Admits d r h e → IsNoValue r f → ⊥
  excludes_value r h e (bad_request not_json) a n = n a.passes.is.reads.0 a.passes.is.reads.1
  excludes_value r h e (bad_request too_deep) a n =
      let reads = a.passes.is.reads in
      let same : n.0 ≡ reads.0 = one_data r.bytes n.0 reads.0 n.1 reads.1 in
      let deep : OBJECT_LEVELS < serde.depth reads.0 = subst (λ (s : serde.Data). OBJECT_LEVELS < serde.depth s) same n.2 in
      omega (arith, deep, reads.2)
  excludes_value r h e (bad_request not_whole) a n =
      let reads = a.passes.is.reads in
      let same : n.0 ≡ reads.0 = one_data r.bytes n.0 reads.0 n.1 reads.1 in
      some_none (json_of reads.0) a.passes.is.value reads.3 (ap json_of (sym same) ∙ n.3)
  excludes_value r h e (bad_request not_object) a n = n
  excludes_value r h e (bad_request wrong_version) a n = n
  excludes_value r h e (bad_request wrong_kind) a n = n
  excludes_value r h e (bad_request wrong_namespace) a n = n
  excludes_value r h e (bad_request wrong_name) a n = n
  excludes_value r h e (bad_request (bad_query parameter)) a n = n
  excludes_value r h e (bad_request bad_token) a n = n
  excludes_value r h e (bad_request bad_options) a n = n
  excludes_value r h e (invalid name cause) a n = n

  excludes : (r : Request) (h : ObjectView) (e : Option ℕ) (f : Fault) → Admits d r h e → RefusesRequest d r f → ⊥
  excludes r h e f a (no_value n) = excludes_value r h e f a n
  excludes r h e f a (is_early t) =
      let is = a.passes.is in
      some_none (early d r t.value) f t.told (ap (early d r) (one_json r.bytes t.value is.value t.reads is.reads) ∙ is.nothing)
  excludes r h e f a (is_broken b) =
      let p = a.passes in
      let same = taken_one d r p.taken b.object e b.number p.is b.taken in
      let filling : IsFilling (schema_of d r) b.object.body a.object.body = subst (λ (x : ObjectView). IsFilling (schema_of d r) x.body a.object.body) same.0 p.filling in
      none_broken (schema_of d r) a.object.body b.cause p.valid (b.broken a.object.body filling)
  excludes r h e f a (badly_kept b) =
      let same = passes_one known d r a.object b.object e b.number a.passes b.passes in
      a.read b.key (subst (λ (x : ObjectView). IsUnread d r x b.key) (sym same.0) b.unread)
  excludes r h e f a (too_large b) =
      let same = passes_one known d r a.object b.object e b.number a.passes b.passes in
      b.large h (subst (λ (x : ObjectView). IsHubOf d r.version x h) same.0 a.hub) a.light

  -- ---- one of both

  module _ (r : Request) (never_admitted : (h : ObjectView) (e : Option ℕ) → Admits d r h e → ⊥) (never_refused : (f : Fault) → RefusesRequest d r f → ⊥) where
    passed_decided : (x : ObjectView) (e : Option ℕ) → Passes d r x e → ⊥
    passed_decided x e p =
        let read : (k : Name) → IsUnread d r x k → ⊥ =
        λ k u. never_refused (breaks x.meta.name (annotation_prefix ++ k) rule.Kept) (badly_kept (record { object = x; number = e; passes = p; key = k; unread = u; told = refl })) in
        never_refused (breaks x.meta.name object_path rule.Size) (too_large (record {
          object = x;
          number = e;
          passes = p;
          read = read;
          large = λ h hub light. never_admitted h e (record { object = x; passes = p; read = read; hub = hub; light = light });
          told = refl;
        }))

    filled_decided : (x : ObjectView) (e : Option ℕ) (k : Pairs) → IsTaken d r x e → IsFilling (schema_of d r) x.body k → (o : Option check.Fault) → check.fault (schema_of d r) (object (members_of k)) ≡ o → ⊥
    filled_decided x e k t f None q = passed_decided (record x { body = k }) e (record { taken = x; is = t; filling = f; rest = refl; valid = q })
    filled_decided x e k t f (Some g) q =
        never_refused (invalid x.meta.name (cause_at g)) (is_broken (record {
          object = x;
          number = e;
          taken = t;
          cause = cause_at g;
          told = refl;
          broken = λ l m. ap (broken_at (schema_of d r)) (filling_one known d (schema_of d r) x.body x.body l k refl m f) ∙ ap (option_map cause_at) q;
        }))

    taken_decided : (x : ObjectView) (e : Option ℕ) → IsTaken d r x e → ⊥
    taken_decided x e t =
        never_refused (breaks x.meta.name [] rule.Kind) (is_broken (record {
          object = x;
          number = e;
          taken = t;
          cause = record { field = []; rule = rule.Kind };
          told = refl;
          broken = λ k f. absurd (filled_decided x e k t f (check.fault (schema_of d r) (object (members_of k))) refl);
        }))

    value_decided : (j : Json) → Reads r.bytes OBJECT_LEVELS j → (o : Option Fault) → early d r j ≡ o → ⊥
    value_decided j reads None q =
        taken_decided (placed r.ns (object_in j)) (expected_of (object_in j)) (record { value = j; reads = reads; nothing = q; object = refl; number = refl })
    value_decided j reads (Some f) q = never_refused f (is_early (record { value = j; reads = reads; told = q }))

    data_decided : (s : serde.Data) → IsReading r.bytes s → ⊥
    data_decided s reading = by_tests (nat_le (serde.depth s) OBJECT_LEVELS) (json_of s) refl refl
      where
        by_tests : (b : Bool) (o : Option Json) → nat_le (serde.depth s) OBJECT_LEVELS ≡ b → json_of s ≡ o → ⊥
        by_tests false o p q =
            let deep : OBJECT_LEVELS < serde.depth s = grind (arith, nat_tests) in
            never_refused (bad_request too_deep) (no_value (s, reading, deep))
        by_tests true None p q =
            let within : serde.depth s ≤ OBJECT_LEVELS = grind (arith, nat_tests) in
            never_refused (bad_request not_whole) (no_value (s, reading, within, q))
        by_tests true (Some j) p q =
            let within : serde.depth s ≤ OBJECT_LEVELS = grind (arith, nat_tests) in
            value_decided j (s, reading, within, q) (early d r j) refl

    decided : ⊥
    decided = never_refused (bad_request not_json) (no_value data_decided)

  pub decides : DecidesAdmission (meaning_of d o)
  decides = record { one = one; excludes = excludes }

  pub decides_each : DecidesEach (meaning_of d o)
  decides_each = record { complete = λ r is never_admitted never_refused. decided r never_admitted never_refused }

  pub admits_whole : AdmitsWhole (meaning_of d o)
  admits_whole = record { admitted = admitted }

-- ---- a body that is no object

early_other : (d : Definition) (r : Request) (j : Json) → ((fields : Pairs) → j ≡ object (members_of fields) → ⊥) → early d r j ≡ Some (bad_request not_object)
early_other d r null other = refl
early_other d r (boolean b) other = refl
early_other d r (whole z) other = refl
early_other d r (text s) other = refl
early_other d r (list js) other = refl
early_other d r (object ms) other = absurd (other (pairs_of ms) (ap object (sym (members_pairs ms))))

pub unread : (o : Settings) (d : Definition) → RefusesUnread (meaning_of d o)
unread o d = record {
  not_json = λ r h. no_value h;
  too_deep = λ r h. no_value h;
  not_whole = λ r h. no_value h;
  not_object = λ r j reads other. is_early (record { value = j; reads = reads; told = early_other d r j other });
}
