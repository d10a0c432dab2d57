-- Lines written one after the other.
use Rattle.std.proofs.Common.{◌≡◌, ℕ, ◌≤◌, max, List, [], ◌∷◌, ◌++◌, Option, refl, ap, sym, ◌∙◌, append_assoc, subst, arith}
use Rattle.std.proofs.lemmas.List.{append-nil}
use Rattle.std.specs.Io.KnownBytes.{append_known}
use Rattle.kj_value.specs.Json.{Json, depth, items_depth, items_of}
use Rattle.edge_io.specs.Sends.{AddsSome}
use Rattle.edge_io.specs.laws.Sending.{known_nil, added_both, adds_more, adds_fewer}
use Rattle.record_dump.specs.Lines.{line_of, lines_of}

-- nothing was written
pub none_added : (before : Option (List ℕ)) (bytes : List ℕ) → AddsSome before before bytes
none_added before bytes = record { front = []; back = bytes; whole = refl; wrote = known_nil before }

-- all was written
pub all_added : (before mid now : Option (List ℕ)) (bytes : List ℕ) → mid ≡ append_known before bytes → now ≡ mid → AddsSome before now bytes
all_added before mid now bytes wrote same = record { front = bytes; back = []; whole = sym (append-nil bytes); wrote = same ∙ wrote }

pub lines_both : (xs ys : List Json) → lines_of (xs ++ ys) ≡ lines_of xs ++ lines_of ys
lines_both [] ys = refl
lines_both (x ∷ xs) ys = ap (λ (bs : List ℕ). line_of x ++ bs) (lines_both xs ys) ∙ sym (append_assoc (line_of x) (lines_of xs) (lines_of ys))

-- the first lines were written, and the next one
pub one_line_more : (before mid now : Option (List ℕ)) (done : List Json) (j : Json) → mid ≡ append_known before (lines_of done) → now ≡ append_known mid (line_of j)
    → now ≡ append_known before (lines_of (done ++ j ∷ []))
one_line_more before mid now done j first second =
    added_both before mid now (lines_of done) (line_of j) first second
    ∙ ap (λ (bs : List ℕ). append_known before bs) (ap (λ (bs : List ℕ). lines_of done ++ bs) (sym (append-nil (line_of j))) ∙ sym (lines_both done (j ∷ [])))

-- the first lines were written, and a front of the next one
pub front_of_lines : (before mid now : Option (List ℕ)) (all done : List Json) (j : Json) (rest : List Json) → all ≡ done ++ j ∷ rest → mid ≡ append_known before (lines_of done)
    → AddsSome mid now (line_of j) → AddsSome before now (lines_of all)
front_of_lines before mid now all done j rest is first some =
    subst (λ (bs : List ℕ). AddsSome before now bs) (sym (ap (λ (js : List Json). lines_of js) is ∙ lines_both done (j ∷ rest)))
    (adds_more before mid now (lines_of done) (line_of j ++ lines_of rest) first (adds_fewer mid now (line_of j) (lines_of rest) some))

-- all lines were written
pub all_lines : (before now : Option (List ℕ)) (all done rest : List Json) → all ≡ done ++ rest → rest ≡ [] → now ≡ append_known before (lines_of done) → now ≡ append_known before (lines_of all)
all_lines before now all done rest is none wrote =
    let same : all ≡ done = is ∙ ap (λ (js : List Json). done ++ js) none ∙ append-nil done in
    wrote ∙ ap (λ (js : List Json). append_known before (lines_of js)) (sym same)

first_within : (a b m : ℕ) → max a b ≤ m → a ≤ m
first_within a b m h = omega arith

rest_within : (a b m : ℕ) → max a b ≤ m → b ≤ m
rest_within a b m h = omega arith

pub first_low : (all : List Json) (j : Json) (rest : List Json) (m : ℕ) → all ≡ j ∷ rest → items_depth (items_of all) ≤ m → depth j ≤ m
first_low all j rest m is low =
    first_within (depth j) (items_depth (items_of rest)) m (subst (λ (js : List Json). items_depth (items_of js) ≤ m) is low)

pub rest_low : (all : List Json) (j : Json) (rest : List Json) (m : ℕ) → all ≡ j ∷ rest → items_depth (items_of all) ≤ m → items_depth (items_of rest) ≤ m
rest_low all j rest m is low =
    rest_within (depth j) (items_depth (items_of rest)) m (subst (λ (js : List Json). items_depth (items_of js) ≤ m) is low)
