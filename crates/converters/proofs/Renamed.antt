-- What is made of an object's document.
use Rattle.std.proofs.Common.{◌≡◌, ◌∙◌, ℕ, Bool, true, false, List, Option, Some, None, codes, bytes_eq, ◌&&◌, ap, sym, refl, subst, if◌then◌else◌}
use Rattle.std.proofs.lemmas.Slice.Eq.{bytes_eq-Decides}
use Rattle.std.specs.Ordering.{nat_cmp}
use Rattle.std.specs.Cmp.Lexicographic.{slice_cmp}
use Rattle.std.specs.BTreeMap.{is_at}
use Rattle.kj_value.specs.Json.{Json, text, object, members_of}
use Rattle.kj_value.specs.Fields.{Pairs, field, with_field, without_field}
use Rattle.kj_value.specs.Kinds.{as_object}
use Rattle.kj_value.specs.KindLaws.{pairs_members}
use Rattle.kube_meta.specs.Document.{document, metadata}
use Rattle.kube_meta.specs.View.{ObjectView}
use Rattle.object_reading.specs.Parts.{whole_in, body_in, text_or_empty}
use Rattle.object_reading.specs.Written.{IsWritable, IsBody}
use Rattle.object_reading.proofs.Accepting.{read_back}
use Rattle.object_reading.proofs.Left.{field-without_other}
use Rattle.object_reading.proofs.Put.{field-with, field-with_other, without-with}
use Rattle.converters.specs.Turned.{IsDocumentOf}
use Rattle.converters.specs.Renaming.{v1, v1beta1, Names, names_for, put, renamed, moved, rename, remade, TurnsTo}

-- the fields of a document
abbrev pub fields_of : ObjectView → Pairs
fields_of x =
    with_field (codes "metadata") (object (members_of (metadata x.meta))) (with_field (codes "kind") (text x.kind) (with_field (codes "apiVersion") (text x.api_version) x.body))

pub document_is : (x : ObjectView) → document x ≡ object (members_of (fields_of x))
unfolding document
document_is x = refl

pub fields_are : (x : ObjectView) (es : Pairs) → as_object (document x) ≡ Some es → es ≡ fields_of x
fields_are x es e =
    let known : as_object (document x) ≡ Some (fields_of x) = ap as_object (document_is x) ∙ ap (λ (ps : Pairs). Some ps) (pairs_members (fields_of x)) in
    let same : Some es ≡ Some (fields_of x) = sym e ∙ known in
    cc

module _ (x : ObjectView) (is : IsBody x.body) where
  behind : Pairs
  behind = with_field (codes "kind") (text x.kind) (with_field (codes "apiVersion") (text x.api_version) x.body)

  no_metadata : field (codes "metadata") behind ≡ None
  unfolding behind
  no_metadata =
      field-with_other (codes "metadata") (codes "kind") (text x.kind) (with_field (codes "apiVersion") (text x.api_version) x.body) refl
      ∙ field-with_other (codes "metadata") (codes "apiVersion") (text x.api_version) x.body refl ∙ is.metadata

  no_kind : field (codes "kind") (with_field (codes "apiVersion") (text x.api_version) x.body) ≡ None
  no_kind = field-with_other (codes "kind") (codes "apiVersion") (text x.api_version) x.body refl ∙ is.kind

  first : without_field (codes "metadata") (fields_of x) ≡ behind
  unfolding behind
  first = without-with (codes "metadata") (object (members_of (metadata x.meta))) behind no_metadata

  second : without_field (codes "kind") behind ≡ with_field (codes "apiVersion") (text x.api_version) x.body
  unfolding behind
  second = without-with (codes "kind") (text x.kind) (with_field (codes "apiVersion") (text x.api_version) x.body) no_kind

  pub body_is : body_in (fields_of x) ≡ x.body
  body_is =
      ap (λ (ps : Pairs). without_field (codes "apiVersion") (without_field (codes "kind") ps)) first
      ∙ ap (λ (ps : Pairs). without_field (codes "apiVersion") ps) second
      ∙ without-with (codes "apiVersion") (text x.api_version) x.body is.api_version

  pub kind_is : field (codes "kind") (without_field (codes "metadata") (fields_of x)) ≡ Some (text x.kind)
  unfolding behind
  kind_is = ap (field (codes "kind")) first ∙ field-with (codes "kind") (text x.kind) (with_field (codes "apiVersion") (text x.api_version) x.body)

  pub remade_is : (n : Names) (to : List ℕ) → object (members_of (remade n to (fields_of x))) ≡ document (moved x to n)
  remade_is n to =
      let meta = field-with (codes "metadata") (object (members_of (metadata x.meta))) (with_field (codes "kind") (text x.kind) (with_field (codes "apiVersion") (text x.api_version) x.body)) in
      ap (λ (o : Option Json). object (members_of (put (codes "metadata") o (put (codes "kind") (field (codes "kind") (without_field (codes "metadata") (fields_of x))) (with_field (codes "apiVersion") (text to) (renamed n (body_in (fields_of x)))))))) meta
      ∙ ap (λ (o : Option Json). object (members_of (with_field (codes "metadata") (object (members_of (metadata x.meta))) (put (codes "kind") o (with_field (codes "apiVersion") (text to) (renamed n (body_in (fields_of x)))))))) kind_is
      ∙ ap (λ (ps : Pairs). object (members_of (with_field (codes "metadata") (object (members_of (metadata x.meta))) (with_field (codes "kind") (text x.kind) (with_field (codes "apiVersion") (text to) (renamed n ps)))))) body_is
      ∙ sym (document_is (moved x to n))

-- ---- the renamed body leaves the three names alone

apart : List ℕ → List ℕ → Type 0
apart k l = is_at (slice_cmp nat_cmp k) l ≡ false

put_other : (k l : List ℕ) (o : Option Json) (es : Pairs) → is_at (slice_cmp nat_cmp k) l ≡ false → field k (put l o es) ≡ field k es
put_other k l None es other = refl
put_other k l (Some j) es other = field-with_other k l j es other

renamed_other : (k : List ℕ) (n : Names) (es : Pairs) → is_at (slice_cmp nat_cmp k) n.0 ≡ false → is_at (slice_cmp nat_cmp k) n.1 ≡ false
    → field k es ≡ None → field k (renamed n es) ≡ None
renamed_other k n es one two none = put_other k n.1 (field n.0 es) (without_field n.0 es) two ∙ field-without_other k n.0 es one ∙ none

pub record AreApart (n : Names) : Type 0 where
  pub api_version : (is_at (slice_cmp nat_cmp (codes "apiVersion")) n.0 ≡ false) × (is_at (slice_cmp nat_cmp (codes "apiVersion")) n.1 ≡ false)
  pub kind : (is_at (slice_cmp nat_cmp (codes "kind")) n.0 ≡ false) × (is_at (slice_cmp nat_cmp (codes "kind")) n.1 ≡ false)
  pub metadata : (is_at (slice_cmp nat_cmp (codes "metadata")) n.0 ≡ false) × (is_at (slice_cmp nat_cmp (codes "metadata")) n.1 ≡ false)

address_host : AreApart (codes "address", codes "host")
address_host = record { api_version = (refl, refl); kind = (refl, refl); metadata = (refl, refl) }

host_address : AreApart (codes "host", codes "address")
host_address = record { api_version = (refl, refl); kind = (refl, refl); metadata = (refl, refl) }

some_names : (n m : Names) → Some n ≡ Some m → n ≡ m
some_names n m e = cc

pub names_apart : (version to : List ℕ) (n : Names) → names_for version to ≡ Some n → AreApart n
unfolding names_for
names_apart version to n e = by (bytes_eq version v1beta1 && bytes_eq to v1) (bytes_eq version v1 && bytes_eq to v1beta1) e
  where
    by : (a b : Bool) → (if a then Some (codes "address", codes "host") else (if b then Some (codes "host", codes "address") else None)) ≡ Some n → AreApart n
    by true b e = subst AreApart (some_names _ n e) address_host
    by false true e = subst AreApart (some_names _ n e) host_address
    by false false e = absurd (cc)

pub moved_writable : (x : ObjectView) (to : List ℕ) (n : Names) → IsWritable x → AreApart n → IsWritable (moved x to n)
moved_writable x to n is apart_ = record {
  body = record {
    api_version = renamed_other (codes "apiVersion") n x.body apart_.api_version.0 apart_.api_version.1 is.body.api_version;
    kind = renamed_other (codes "kind") n x.body apart_.kind.0 apart_.kind.1 is.body.kind;
    metadata = renamed_other (codes "metadata") n x.body apart_.metadata.0 apart_.metadata.1 is.body.metadata;
  };
  created = is.created;
  deleted = is.deleted;
}

-- ---- the three ways

version_is : (j : Json) (x : ObjectView) (es : Pairs) → IsDocumentOf j x → as_object j ≡ Some es → text_or_empty (field (codes "apiVersion") es) ≡ x.api_version
version_is j x es of known =
    let same : es ≡ fields_of x = fields_are x es (ap as_object (sym of.is) ∙ known) in
    ap (λ (ps : Pairs). text_or_empty (field (codes "apiVersion") ps)) same ∙ ap text_or_empty (
    field-with_other (codes "apiVersion") (codes "metadata") (object (members_of (metadata x.meta))) (with_field (codes "kind") (text x.kind) (with_field (codes "apiVersion") (text x.api_version) x.body)) refl
    ∙ field-with_other (codes "apiVersion") (codes "kind") (text x.kind) (with_field (codes "apiVersion") (text x.api_version) x.body) refl
    ∙ field-with (codes "apiVersion") (text x.api_version) x.body
    )

eq_true : (a b : List ℕ) → a ≡ b → bytes_eq a b ≡ true
eq_true a b e = (bytes_eq-Decides a b).1 e

eq_false : (a b : List ℕ) → (a ≡ b → ⊥) → bytes_eq a b ≡ false
eq_false a b differs = by (bytes_eq a b) refl
  where
    by : (t : Bool) → bytes_eq a b ≡ t → bytes_eq a b ≡ false
    by true e = absurd (differs ((bytes_eq-Decides a b).0 e))
    by false e = e

pub stays : (j v : Json) (x : ObjectView) (to version : List ℕ) (es : Pairs) → as_object j ≡ Some es → version ≡ text_or_empty (field (codes "apiVersion") es)
    → version ≡ to → v ≡ j → IsDocumentOf j x → TurnsTo x to (Some v)
unfolding rename
stays j v x to version es known is same copied of =
    let here : x.api_version ≡ to = sym (version_is j x es of known) ∙ sym is ∙ same in
    rw (eq_true x.api_version to here) (ap (λ (y : ObjectView). Some y) (sym (ap whole_in (copied ∙ of.is) ∙ read_back x of.writable)))

pub moves : (j k v : Json) (x : ObjectView) (to version : List ℕ) (n : Names) (es fs : Pairs) → as_object j ≡ Some es → version ≡ text_or_empty (field (codes "apiVersion") es)
    → (version ≡ to → ⊥) → Some n ≡ names_for version to → k ≡ j → as_object k ≡ Some fs → v ≡ object (members_of (remade n to fs)) → IsDocumentOf j x → TurnsTo x to (Some v)
unfolding rename
moves j k v x to version n es fs known is differs names copied taken made of =
    let here : version ≡ x.api_version = is ∙ version_is j x es of known in
    let other : x.api_version ≡ to → ⊥ = λ e. differs (here ∙ e) in
    let pair : names_for x.api_version to ≡ Some n = ap (λ (a : List ℕ). names_for a to) (sym here) ∙ sym names in
    let fields : fs ≡ fields_of x = fields_are x fs (ap as_object (sym (copied ∙ of.is)) ∙ taken) in
    let doc : v ≡ document (moved x to n) = made ∙ ap (λ (ps : Pairs). object (members_of (remade n to ps))) fields ∙ remade_is x of.writable.body n to in
    let back = read_back (moved x to n) (moved_writable x to n of.writable (names_apart x.api_version to n pair)) in
    rw (eq_false x.api_version to other, pair) (ap (λ (y : ObjectView). Some y) (sym (ap whole_in doc ∙ back)))

pub nowhere : (j : Json) (x : ObjectView) (to version : List ℕ) (es : Pairs) → as_object j ≡ Some es → version ≡ text_or_empty (field (codes "apiVersion") es)
    → (version ≡ to → ⊥) → None ≡ names_for version to → IsDocumentOf j x → TurnsTo x to None
unfolding rename
nowhere j x to version es known is differs names of =
    let here : version ≡ x.api_version = is ∙ version_is j x es of known in
    let other : x.api_version ≡ to → ⊥ = λ e. differs (here ∙ e) in
    let none : names_for x.api_version to ≡ None = ap (λ (a : List ℕ). names_for a to) (sym here) ∙ sym names in
    rw (eq_false x.api_version to other, none) refl
