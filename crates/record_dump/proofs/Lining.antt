-- Bytes as lines.
use Rattle.std.proofs.Common.{◌≡◌, ◌≢◌, ℕ, zero, suc, ◌+◌, ◌<◌, ◌≤◌, List, [], ◌∷◌, ◌++◌, Option, Some, None, length, take, drop, get_or, refl, ap, sym, ◌∙◌, append_assoc, subst, arith}
use Rattle.std.proofs.lemmas.List.{append-nil, take_all, take-append-drop, length-take-le, length-append}
use Rattle.std.specs.Io.KnownBytes.{prepend_known}
use Rattle.kj_value.specs.Characters.{line_feed}
use Rattle.record_dump.specs.Restores.{AreInLine, most_bytes}
use Rattle.record_dump.specs.inner.Lined.{Lies, IsLong}

-- ---- where a line ends

pub none_in_line : (bs : List ℕ) → AreInLine (take 0 bs)
none_in_line bs = tt

pub in_line_more : (bs : List ℕ) (i : ℕ) → i < length bs → AreInLine (take i bs) → get_or bs i 0 ≢ line_feed → AreInLine (take (i + 1) bs)
in_line_more bs i within inside other = subst (λ (k : ℕ). AreInLine (take k bs)) (sym (plus_one i)) (by_place bs i within inside other)
  where
    plus_one : (k : ℕ) → k + 1 ≡ suc k
    plus_one k = omega arith

    by_place : (cs : List ℕ) (k : ℕ) → k < length cs → AreInLine (take k cs) → get_or cs k 0 ≢ line_feed → AreInLine (take (suc k) cs)
    by_place [] k few h apart = absurd (omega (arith, few))
    by_place (c ∷ cs) zero few h apart = (apart, tt)
    by_place (c ∷ cs) (suc k) few h apart = (h.0, by_place cs k (omega (arith, few)) h.1 apart)

pub all_in_line : (bs : List ℕ) (i : ℕ) → length bs ≤ i → AreInLine (take i bs) → AreInLine bs
all_in_line bs i past inside = subst (λ (cs : List ℕ). AreInLine cs) (take_all i bs past) inside

-- what was looked at stays a front of what is read behind it
pub front_in_line : (bs more : List ℕ) → AreInLine bs → AreInLine (take (length bs) (bs ++ more))
front_in_line bs more inside = subst (λ (cs : List ℕ). AreInLine cs) (sym (front bs)) inside
  where
    front : (cs : List ℕ) → take (length cs) (cs ++ more) ≡ cs
    front [] = refl
    front (c ∷ cs) = ap (λ (ds : List ℕ). c ∷ ds) (front cs)

-- a line feed parts the bytes
parted : (bs : List ℕ) (i : ℕ) → i < length bs → get_or bs i 0 ≡ line_feed → bs ≡ (take i bs ++ line_feed ∷ []) ++ drop (suc i) bs
parted [] i within at = absurd (omega (arith, within))
parted (b ∷ bs) zero within at = ap (λ (x : ℕ). x ∷ bs) at
parted (b ∷ bs) (suc i) within at = ap (λ (cs : List ℕ). b ∷ cs) (parted bs i (omega (arith, within)) at)

pub lies_at : (bs : List ℕ) (len : ℕ) → len < length bs → AreInLine (take len bs) → get_or bs len 0 ≡ line_feed → len ≤ most_bytes → Lies bs len
lies_at bs len within inside at short =
    let count : length (take len bs) ≡ len = length-take-le len bs (omega (arith, within)) in
    record {
      line = take len bs;
      rest = drop (suc len) bs;
      split = parted bs len within at;
      is_line = record { inside = inside; short = omega (arith, count, short) };
      len_is = count;
    }

pub long_at : (bs : List ℕ) (len : ℕ) → len ≤ length bs → AreInLine (take len bs) → most_bytes < len → IsLong bs
long_at bs len within inside long =
    let count : length (take len bs) ≡ len = length-take-le len bs within in
    record {
      front = take len bs;
      rest = drop len bs;
      split = sym (take-append-drop len bs);
      inside = inside;
      long = omega (arith, count, long);
    }

pub long_all : (bs : List ℕ) → AreInLine bs → most_bytes < length bs → IsLong bs
long_all bs inside long = record { front = bs; rest = []; split = sym (append-nil bs); inside = inside; long = long }

drop_ended : (line rest : List ℕ) → drop (suc (length line)) ((line ++ line_feed ∷ []) ++ rest) ≡ rest
drop_ended [] rest = refl
drop_ended (b ∷ bs) rest = drop_ended bs rest

take_line : (line rest : List ℕ) → take (length line) ((line ++ line_feed ∷ []) ++ rest) ≡ line
take_line [] rest = refl
take_line (b ∷ bs) rest = ap (λ (cs : List ℕ). b ∷ cs) (take_line bs rest)

-- what is left behind a line
pub left_behind : (bs : List ℕ) (len : ℕ) (l : Lies bs len) → drop (len + 1) bs ≡ l.rest
left_behind bs len l =
    let count : len + 1 ≡ suc (length l.line) = omega (arith, l.len_is) in
    ap (λ (cs : List ℕ). drop (len + 1) cs) l.split ∙ ap (λ (k : ℕ). drop k ((l.line ++ line_feed ∷ []) ++ l.rest)) count ∙ drop_ended l.line l.rest

-- the bytes of a line
pub line_is : (bs : List ℕ) (len : ℕ) (l : Lies bs len) → take len bs ≡ l.line
line_is bs len l =
    ap (λ (cs : List ℕ). take len cs) l.split ∙ ap (λ (k : ℕ). take k ((l.line ++ line_feed ∷ []) ++ l.rest)) (sym l.len_is) ∙ take_line l.line l.rest

pub line_within : (bs : List ℕ) (len : ℕ) → Lies bs len → len + 1 ≤ length bs
line_within bs len l =
    let count : length bs ≡ length ((l.line ++ line_feed ∷ []) ++ l.rest) = ap (λ (cs : List ℕ). length cs) l.split in
    let both : length ((l.line ++ line_feed ∷ []) ++ l.rest) ≡ length (l.line ++ line_feed ∷ []) + length l.rest = length-append (l.line ++ line_feed ∷ []) l.rest in
    let one : length (l.line ++ line_feed ∷ []) ≡ length l.line + 1 = length-append l.line (line_feed ∷ []) in
    omega (arith, count, both, one, l.len_is)

pub line_short : (bs : List ℕ) (len : ℕ) → Lies bs len → len ≤ most_bytes
line_short bs len l = omega (arith, l.is_line.short, l.len_is)

-- ---- what was read

pub prepend_nil : (left : Option (List ℕ)) → left ≡ prepend_known [] left
prepend_nil None = refl
prepend_nil (Some bs) = refl

pub prepend_both : (before mid now : Option (List ℕ)) (p q : List ℕ) → before ≡ prepend_known p mid → mid ≡ prepend_known q now → before ≡ prepend_known (p ++ q) now
prepend_both before mid now p q first second = first ∙ ap (λ (left : Option (List ℕ)). prepend_known p left) second ∙ by_left now
  where
    by_left : (left : Option (List ℕ)) → prepend_known p (prepend_known q left) ≡ prepend_known (p ++ q) left
    by_left None = refl
    by_left (Some bs) = ap (λ (cs : List ℕ). Some cs) (sym (append_assoc p q bs))
