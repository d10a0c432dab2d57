-- Rows in blocks, of which each but the last that has rows is full.
use Rattle.std.proofs.Common.{◌≡◌, ℕ, zero, suc, ◌+◌, ◌-◌, ◌*◌, ◌/◌, ◌%◌, ◌<◌, ◌≤◌, List, [], ◌∷◌, ◌++◌, length, take, drop, set, get_or, Bool, true, false, nat_lt, Some, ap, sym, subst, refl, ◌∙◌, arith, append_assoc, append-nil}
use Rattle.std.specs.Prelude.{insert, remove, slice_get}
use Rattle.std.specs.List.{AllByRecursion as Each}
use Rattle.std.proofs.lemmas.Bool.Decides.{nat_tests}
use Rattle.std.proofs.lemmas.List.{length-append, length-drop, length-set, set-append_left, set-append_right, set_split, take_more_set, take-set, take-set-le, drop-set-lt, drop_more, drop_all, take-append-drop, length-take-le, get_or-set_other}
use Rattle.std.proofs.lemmas.List.Edits.{insert-append_left, insert-append_right, remove-append_left, remove-append_right, length-insert, length-remove}
use Rattle.record_store.specs.Blocks.{block_rows, IsFull, IsGapped, IsPacked, joined}

-- where a block isn't full, m rows stand behind it
module _ (n m : ℕ) (few : n < block_rows → m ≡ 0) where
  full-before : 0 < m → block_rows ≤ n
  full-before some = by (nat_lt n block_rows) refl
    where
      by : (t : Bool) → nat_lt n block_rows ≡ t → block_rows ≤ n
      by true e =
          let short : n < block_rows = grind (arith, nat_tests) in
          let none = few short in
          omega (arith, some, none)
      by false e = grind (arith, nat_tests)

  reaches : (at : ℕ) → at ≤ block_rows → at ≤ n + m → at ≤ n
  reaches at q r = by (nat_lt n block_rows) refl
    where
      by : (t : Bool) → nat_lt n block_rows ≡ t → at ≤ n
      by true e =
          let short : n < block_rows = grind (arith, nat_tests) in
          let none = few short in
          omega (arith, r, none)
      by false e =
          let long : block_rows ≤ n = grind (arith, nat_tests) in
          omega (arith, long, q)

module _ {X : Type 0} where
  joined-append : (fs bs : List (List X)) → joined (fs ++ bs) ≡ joined fs ++ joined bs
  joined-append [] bs = refl
  joined-append (a ∷ fs) bs = ap (λ (l : List X). a ++ l) (joined-append fs bs) ∙ sym (append_assoc a (joined fs) (joined bs))

  length-full : (fs : List (List X)) → Each IsFull fs → length (joined fs) ≡ block_rows * length fs
  length-full [] h = omega arith
  length-full (a ∷ fs) h =
      let more = length-full fs h.1 in
      let full = h.0 in
      omega (arith, length-append a (joined fs), more, full)

  packed-append : (fs bs : List (List X)) → Each IsFull fs → IsPacked bs → IsPacked (fs ++ bs)
  packed-append [] bs h k = k
  packed-append (a ∷ fs) bs h k =
      let full = h.0 in
      (omega (arith, full), λ p. absurd (omega (arith, full, p)), packed-append fs bs h.1 k)

  each-more : (fs : List (List X)) (b : List X) → Each IsFull fs → IsFull b → Each IsFull (fs ++ b ∷ [])
  each-more [] b h k = (k, tt)
  each-more (a ∷ fs) b h k = (h.0, each-more fs b h.1 k)

  get-left : (xs ys : List X) (i : ℕ) → i < length xs → slice_get (xs ++ ys) i ≡ slice_get xs i
  get-left [] ys i p = absurd (omega (arith, p))
  get-left (z ∷ xs) ys zero p = refl
  get-left (z ∷ xs) ys (suc i) p = get-left xs ys i (omega (arith, p))

  get-right : (xs ys : List X) (n i m : ℕ) → length xs ≡ n → m ≡ n + i → slice_get (xs ++ ys) m ≡ slice_get ys i
  get-right [] ys n i m e f = let same : m ≡ i = omega (arith, e, f) in ap (slice_get ys) same
  get-right (x ∷ xs) ys n i zero e f = absurd (omega (arith, e, f))
  get-right (x ∷ xs) ys zero i (suc m) e f = absurd (omega (arith, e, f))
  get-right (x ∷ xs) ys (suc n) i (suc m) e f = get-right xs ys n i m (omega (arith, e)) (omega (arith, f))

  drop-past : (xs ys : List X) (n k m : ℕ) → length xs ≡ n → m ≡ n + k → drop m (xs ++ ys) ≡ drop k ys
  drop-past [] ys n k m e f = let same : m ≡ k = omega (arith, e, f) in ap (λ (i : ℕ). drop i ys) same
  drop-past (x ∷ xs) ys n k zero e f = absurd (omega (arith, e, f))
  drop-past (x ∷ xs) ys zero k (suc m) e f = absurd (omega (arith, e, f))
  drop-past (x ∷ xs) ys (suc n) k (suc m) e f = drop-past xs ys n k m (omega (arith, e)) (omega (arith, f))

  drop-within : (xs ys : List X) (k : ℕ) → k ≤ length xs → drop k (xs ++ ys) ≡ drop k xs ++ ys
  drop-within xs ys zero p = refl
  drop-within [] ys (suc k) p = absurd (omega (arith, p))
  drop-within (x ∷ xs) ys (suc k) p = drop-within xs ys k (omega (arith, p))

  -- ---- rows that lie side by side, in two parts

  pub run-front : (xs ys zs : List X) (k : ℕ) → xs ++ ys ≡ zs → k ≤ length xs → drop k xs ++ drop (k + length (drop k xs)) zs ≡ drop k zs
  run-front xs ys zs k e p =
      let end : k + length (drop k xs) ≡ length xs + 0 = omega (arith, length-drop k xs, p) in
      ap (λ (l : List X). drop k xs ++ drop (k + length (drop k xs)) l) (sym e)
      ∙ ap (λ (l : List X). drop k xs ++ l) (drop-past xs ys (length xs) 0 (k + length (drop k xs)) refl end)
      ∙ sym (drop-within xs ys k p) ∙ ap (λ (l : List X). drop k l) e

  pub run-back : (xs ys zs : List X) (k m : ℕ) → xs ++ ys ≡ zs → k ≡ length xs + m → drop m ys ++ drop (k + length (drop m ys)) zs ≡ drop k zs
  run-back xs ys zs k m e f =
      let there : drop k zs ≡ drop m ys = ap (λ (l : List X). drop k l) (sym e) ∙ drop-past xs ys (length xs) m k refl f in
      let end : length zs ≤ k + length (drop m ys) = omega (arith, ap (λ (l : List X). length l) e, length-append xs ys, f, length-drop m ys) in
      ap (λ (l : List X). drop m ys ++ l) (drop_all (k + length (drop m ys)) zs end) ∙ append-nil (drop m ys) ∙ sym there

  -- ---- one block among the others

  pub same_there : (bs : List (List X)) (i : ℕ) (d : List X) → i < length bs → get_or bs i d ≡ get_or bs i (get_or bs i d)
  same_there [] i d p = refl
  same_there (b ∷ bs) zero d p = refl
  same_there (b ∷ bs) (suc i) d p = same_there bs i d (omega (arith, p))

  drop-set_here : (bs : List (List X)) (i : ℕ) (b : List X) → i < length bs → drop i (set bs i b) ≡ b ∷ drop (suc i) bs
  drop-set_here [] i b p = absurd (omega (arith, p))
  drop-set_here (c ∷ bs) zero b p = refl
  drop-set_here (c ∷ bs) (suc i) b p = drop-set_here bs i b (omega (arith, p))

  module _ (bs : List (List X)) (i : ℕ) (b : List X) (p : i < length bs) where
    after : suc i ≡ i + 1
    after = omega arith

    recut : set bs i b ≡ take i bs ++ b ∷ drop (i + 1) bs
    recut = set_split bs i b p ∙ ap (λ (n : ℕ). take i bs ++ b ∷ drop n bs) after

    joined-set : joined (set bs i b) ≡ joined (take i bs) ++ (b ++ joined (drop (i + 1) bs))
    joined-set = ap joined recut ∙ joined-append (take i bs) (b ∷ drop (i + 1) bs)

    from-set : drop i (set bs i b) ≡ b ∷ drop (i + 1) bs
    from-set = drop-set_here bs i b p ∙ ap (λ (n : ℕ). b ∷ drop n bs) after

    behind-set : drop (i + 1) (set bs i b) ≡ drop (i + 1) bs
    behind-set = drop-set-lt (i + 1) bs i b (omega arith)

    module _ (is : b ≡ get_or bs i b) where
      from-here : drop i bs ≡ b ∷ drop (i + 1) bs
      from-here = drop_more bs i b p ∙ ap (λ (c : List X). c ∷ drop (i + 1) bs) (sym is)

      joined-cut : joined bs ≡ joined (take i bs) ++ (b ++ joined (drop (i + 1) bs))
      joined-cut =
          ap joined (sym (take-append-drop i bs) ∙ ap (λ (l : List (List X)). take i bs ++ l) from-here)
          ∙ joined-append (take i bs) (b ∷ drop (i + 1) bs)

  packed-long : (bs : List (List X)) → IsPacked bs → length (joined bs) ≤ block_rows * length bs
  packed-long [] h = omega arith
  packed-long (b ∷ bs) h =
      let most = h.0 in
      let more = packed-long bs h.2 in
      omega (arith, length-append b (joined bs), most, more)

  parts : (bs : List (List X)) (i at : ℕ) (d : List X) → IsPacked bs → i < length bs → at ≤ block_rows → block_rows * i + at ≤ length (joined bs) → Each IsFull (take i bs) × IsPacked (drop i bs) × (at ≤ length (get_or bs i d))
  parts [] i at d h p q r = absurd (omega (arith, p))
  parts (b ∷ bs) zero at d h p q r =
      let few : length b < block_rows → length (joined bs) ≡ 0 = h.1 in
      let reach : block_rows * zero + at ≤ length (b ++ joined bs) = r in
      let within = reaches (length b) (length (joined bs)) few at q (omega (arith, reach, length-append b (joined bs))) in
      (tt, h, within)
  parts (b ∷ bs) (suc i) at d h p q r =
      let most : length b ≤ block_rows = h.0 in
      let few : length b < block_rows → length (joined bs) ≡ 0 = h.1 in
      let reach : block_rows * suc i + at ≤ length (b ++ joined bs) = r in
      let sum = length-append b (joined bs) in
      let long = reaches (length b) (length (joined bs)) few block_rows (omega arith) (omega (arith, reach, sum)) in
      let full : length b ≡ block_rows = omega (arith, long, most) in
      let more = parts bs i at d h.2 (omega (arith, p)) q (omega (arith, reach, sum, full)) in
      ((full, more.0), more.1, more.2)

  -- a place of the rows, as a place of a block
  record IsSpot (bs : List (List X)) (i at : ℕ) (b : List X) : Type 0 where
    pub front : Each IsFull (take i bs)
    pub packed : IsPacked (b ∷ drop (i + 1) bs)
    pub within : at ≤ length b
    pub before : length (joined (take i bs)) ≡ block_rows * i

  spot : (bs : List (List X)) (i at : ℕ) (b : List X) → IsPacked bs → i < length bs → b ≡ get_or bs i b → at ≤ block_rows → block_rows * i + at ≤ length (joined bs) → IsSpot bs i at b
  spot bs i at b h p is q r =
      let found = parts bs i at b h p q r in
      let front = found.0 in
      let within = found.2 in
      record {
        front = front;
        packed = subst IsPacked (from-here bs i b p is) found.1;
        within = subst (λ (c : List X). at ≤ length c) (sym is) within;
        before = length-full (take i bs) front ∙ ap (λ (n : ℕ). block_rows * n) (length-take-le i bs (omega (arith, p)));
      }

  module _ (bs : List (List X)) (i at n : ℕ) (b : List X) (p : i < length bs) (is : b ≡ get_or bs i b) (s : IsSpot bs i at b) (e : n ≡ block_rows * i + at) where
    abbrev front : List X
    front = joined (take i bs)

    abbrev rest : List X
    rest = joined (drop (i + 1) bs)

    behind : n - block_rows * i ≡ at
    behind = omega (arith, e)

    got-at : at < length b → slice_get (joined bs) n ≡ slice_get b at
    got-at q = ap (λ (l : List X). slice_get l n) (joined-cut bs i b p is) ∙ get-right front (b ++ rest) (block_rows * i) at n s.before e ∙ get-left b rest at q

    drop-at : (k m : ℕ) → k ≤ length b → m ≡ block_rows * i + k → drop m (joined bs) ≡ drop k b ++ rest
    drop-at k m q f =
        ap (λ (l : List X). drop m l) (joined-cut bs i b p is)
        ∙ drop-past front (b ++ rest) (block_rows * i) k m s.before f
        ∙ drop-within b rest k q

    set-at : (x : X) → at < length b → set (joined bs) n x ≡ joined (set bs i (set b at x))
    set-at x q =
        ap (λ (l : List X). set l n x) (joined-cut bs i b p is)
        ∙ set-append_right front (b ++ rest) (block_rows * i) n x s.before (omega (arith, e))
        ∙ ap (λ (m : ℕ). front ++ set (b ++ rest) m x) behind
        ∙ ap (λ (l : List X). front ++ l) (set-append_left b rest at x q)
        ∙ sym (joined-set bs i (set b at x) p)

    remove-at : at < length b → remove (joined bs) n ≡ joined (set bs i (remove b at))
    remove-at q =
        ap (λ (l : List X). remove l n) (joined-cut bs i b p is)
        ∙ remove-append_right front (b ++ rest) (block_rows * i) n s.before (omega (arith, e))
        ∙ ap (λ (m : ℕ). front ++ remove (b ++ rest) m) behind
        ∙ ap (λ (l : List X). front ++ l) (remove-append_left b rest at q)
        ∙ sym (joined-set bs i (remove b at) p)

    insert-at : (x : X) → insert (joined bs) n x ≡ front ++ insert (joined (drop i bs)) at x
    insert-at x =
        ap (λ (l : List X). insert l n x) (joined-cut bs i b p is)
        ∙ insert-append_right front (b ++ rest) (block_rows * i) n x s.before (omega (arith, e))
        ∙ ap (λ (m : ℕ). front ++ insert (b ++ rest) m x) behind
        ∙ ap (λ (l : List (List X)). front ++ insert (joined l) at x) (sym (from-here bs i b p is))

    -- a block is replaced by one as long
    packed-set : (c : List X) → length c ≡ length b → IsPacked (set bs i c)
    packed-set c same =
        let most = s.packed.0 in
        let few = s.packed.1 in
        subst IsPacked (sym (recut bs i c p)) (packed-append (take i bs) (c ∷ drop (i + 1) bs) s.front (omega (arith, same, most), λ q. few (omega (arith, q, same)), s.packed.2))

    -- a row went out of the block
    gapped-set : (c : List X) → length c + 1 ≡ length b → IsGapped (drop i (set bs i c))
    gapped-set c less =
        let most = s.packed.0 in
        let few = s.packed.1 in
        subst IsGapped (sym (from-set bs i c p)) (omega (arith, less, most), λ q. few (omega (arith, q, less)), s.packed.2)

    front-set : (c : List X) → Each IsFull (take i (set bs i c))
    front-set c = subst (λ (l : List (List X)). Each IsFull l) (sym (take-set bs i c)) s.front

  -- ---- the place of a row

  pub got-some : (xs : List X) (i : ℕ) → i < length xs → (x : X) × (slice_get xs i ≡ Some x)
  got-some [] i p = absurd (omega (arith, p))
  got-some (x ∷ xs) zero p = (x, refl)
  got-some (x ∷ xs) (suc i) p = got-some xs i (omega (arith, p))

  module _ (bs : List (List X)) (n : ℕ) (h : IsPacked bs) (within : n < length (joined bs)) where
    pub below : n / block_rows < length bs
    below = omega (arith, within, packed-long bs h)

    module _ (b : List X) (is : b ≡ get_or bs (n / block_rows) b) where
      whole : n ≡ block_rows * (n / block_rows) + n % block_rows
      whole = omega arith

      pub inside : n % block_rows < length b
      inside =
          let found = parts bs (n / block_rows) (n % block_rows + 1) b h below (omega arith) (omega (arith, within)) in
          let more = found.2 in
          let long = ap (λ (l : List X). length l) is in
          omega (arith, more, long)

      its_spot : IsSpot bs (n / block_rows) (n % block_rows) b
      its_spot = spot bs (n / block_rows) (n % block_rows) b h below is (omega arith) (omega (arith, within))

      pub got : slice_get (joined bs) n ≡ slice_get b (n % block_rows)
      got = got-at bs (n / block_rows) (n % block_rows) n b below is its_spot whole inside

      -- the rows of the block from there on
      pub run-joined : (run : List X) → run ++ drop (n % block_rows + length run) b ≡ drop (n % block_rows) b → run ++ drop (n + length run) (joined bs) ≡ drop n (joined bs)
      run-joined run e =
          let at = n % block_rows in
          let i = n / block_rows in
          let long = ap (λ (l : List X). length l) e in
          let reach : at + length run ≤ length b = omega (arith, long, length-append run (drop (at + length run) b), length-drop (at + length run) b, length-drop at b, inside) in
          ap (λ (l : List X). run ++ l) (drop-at bs i at n b below is its_spot whole (at + length run) (n + length run) reach (omega (arith, whole)))
          ∙ sym (append_assoc run (drop (at + length run) b) (joined (drop (i + 1) bs)))
          ∙ ap (λ (l : List X). l ++ joined (drop (i + 1) bs)) e
          ∙ sym (drop-at bs i at n b below is its_spot whole at n (omega (arith, inside)) whole)

      -- another row there
      module _ (c : List X) (x : X) (e : c ≡ set b (n % block_rows) x) where
        pub replaced-rows : joined (set bs (n / block_rows) c) ≡ set (joined bs) n x
        replaced-rows =
            ap (λ (d : List X). joined (set bs (n / block_rows) d)) e
            ∙ sym (set-at bs (n / block_rows) (n % block_rows) n b below is its_spot whole x inside)

        pub replaced-length : length (joined (set bs (n / block_rows) c)) ≡ length (joined bs)
        replaced-length = ap (λ (l : List X). length l) replaced-rows ∙ length-set (joined bs) n x

        pub replaced-packed : IsPacked (set bs (n / block_rows) c)
        replaced-packed =
            packed-set bs (n / block_rows) (n % block_rows) n b below is its_spot whole c (ap (λ (l : List X). length l) e ∙ length-set b (n % block_rows) x)

      -- no row there
      module _ (c : List X) (e : c ≡ remove b (n % block_rows)) where
        pub removed-rows : joined (set bs (n / block_rows) c) ≡ remove (joined bs) n
        removed-rows =
            ap (λ (d : List X). joined (set bs (n / block_rows) d)) e
            ∙ sym (remove-at bs (n / block_rows) (n % block_rows) n b below is its_spot whole inside)

        pub removed-front : Each IsFull (take (n / block_rows) (set bs (n / block_rows) c))
        removed-front = front-set bs (n / block_rows) (n % block_rows) n b below is its_spot whole c

        pub removed-gap : IsGapped (drop (n / block_rows) (set bs (n / block_rows) c))
        removed-gap =
            gapped-set bs (n / block_rows) (n % block_rows) n b below is its_spot whole c
            (ap (λ (l : List X). length l + 1) e ∙ length-remove b (n % block_rows) inside)

  -- ---- a row on its way from block to block

  pub record IsPassing (bs : List (List X)) (i at : ℕ) (x : X) (goal : List X) : Type 0 where
    pub below : at < block_rows
    pub within : (b : List X) → i < length bs → b ≡ get_or bs i b → at ≤ length b
    pub front : Each IsFull (take i bs)
    pub packed : IsPacked (drop i bs)
    pub room : length (joined (drop i bs)) + block_rows * i < block_rows * length bs
    pub rows : joined (take i bs) ++ insert (joined (drop i bs)) at x ≡ goal

  passing_from : (bs : List (List X)) (i at n : ℕ) (x : X) → IsPacked bs → n ≡ block_rows * i + at → at < block_rows → n ≤ length (joined bs) → length (joined bs) < block_rows * length bs → IsPassing bs i at x (insert (joined bs) n x)
  passing_from bs i at n x h e q r room =
      let p : i < length bs = omega (arith, e, r, room) in
      let r' : block_rows * i + at ≤ length (joined bs) = omega (arith, e, r) in
      let b = get_or bs i [] in
      let is : b ≡ get_or bs i b = same_there bs i [] p in
      let low : at ≤ block_rows = omega (arith, q) in
      let s = spot bs i at b h p is low r' in
      let found = parts bs i at [] h p low r' in
      let all = ap (λ (l : List X). length l) (ap joined (sym (take-append-drop i bs)) ∙ joined-append (take i bs) (drop i bs)) in
      let before = s.before in
      record {
        below = q;
        within = λ c _ is_c. (spot bs i at c h p is_c low r').within;
        front = s.front;
        packed = found.1;
        room = omega (arith, room, all, before, length-append (joined (take i bs)) (joined (drop i bs)));
        rows = sym (insert-at bs i at n b p is s e x);
      }

  pub passing : (bs : List (List X)) (n : ℕ) (x : X) → IsPacked bs → n ≤ length (joined bs) → length (joined bs) < block_rows * length bs → IsPassing bs (n / block_rows) (n % block_rows) x (insert (joined bs) n x)
  passing bs n x h r room = passing_from bs (n / block_rows) (n % block_rows) n x h (omega arith) (omega arith) r room

  module _ (bs : List (List X)) (i at : ℕ) (x : X) (goal : List X) (b c : List X) (p : i < length bs) (is : b ≡ get_or bs i b) (h : IsPassing bs i at x goal) where
    block-packed : IsPacked (b ∷ drop (i + 1) bs)
    block-packed = subst IsPacked (from-here bs i b p is) h.packed

    put-here : joined (take i bs) ++ (insert b at x ++ joined (drop (i + 1) bs)) ≡ goal
    put-here =
        ap (λ (l : List X). joined (take i bs) ++ l) (sym (insert-append_left b (joined (drop (i + 1) bs)) at x (h.within b p is)))
        ∙ ap (λ (l : List (List X)). joined (take i bs) ++ insert (joined l) at x) (sym (from-here bs i b p is))
        ∙ h.rows

    -- the last row of a full block goes on to the next one
    pub passed : (last : X) → c ++ last ∷ [] ≡ insert b at x → length c ≡ block_rows → IsPassing (set bs i c) (i + 1) 0 last goal
    passed last e full =
        let later = drop (i + 1) bs in
        let within = h.within b p is in
        let most = block-packed.0 in
        let room = h.room in
        let long = ap (λ (l : List X). length l) e in
        let all = ap (λ (l : List (List X)). length (joined l)) (from-here bs i b p is) in
        let sum = length-append b (joined later) in
        let behind = ap (λ (l : List (List X)). length (joined l)) (behind-set bs i c p) in
        record {
          below = omega arith;
          within = λ d _ _. omega arith;
          front = subst (λ (l : List (List X)). Each IsFull l) (sym (take_more_set bs i c p)) (each-more (take i bs) c h.front full);
          packed = subst IsPacked (sym (behind-set bs i c p)) block-packed.2;
          room = omega (arith, room, all, sum, behind, most, full, long, length-append c (last ∷ []), length-insert b at x within, length-set bs i c);
          rows =
              ap (λ (l : List (List X)). joined l ++ insert (joined (drop (i + 1) (set bs i c))) 0 last) (take_more_set bs i c p)
              ∙ ap (λ (l : List X). l ++ insert (joined (drop (i + 1) (set bs i c))) 0 last) (joined-append (take i bs) (c ∷ []))
              ∙ ap (λ (l : List (List X)). (joined (take i bs) ++ (c ++ [])) ++ last ∷ joined l) (behind-set bs i c p)
              ∙ append_assoc (joined (take i bs)) (c ++ []) (last ∷ joined later)
              ∙ ap (λ (l : List X). joined (take i bs) ++ (l ++ last ∷ joined later)) (append-nil c)
              ∙ ap (λ (l : List X). joined (take i bs) ++ l) (sym (append_assoc c (last ∷ []) (joined later)))
              ∙ ap (λ (l : List X). joined (take i bs) ++ (l ++ joined later)) e
              ∙ put-here;
        }

    -- a block that wasn't full has the row
    module _ (e : c ++ [] ≡ insert b at x) (short : length b < block_rows) where
      pub settled-rows : joined (set bs i c) ≡ goal
      settled-rows = joined-set bs i c p ∙ ap (λ (l : List X). joined (take i bs) ++ (l ++ joined (drop (i + 1) bs))) (sym (append-nil c) ∙ e) ∙ put-here

      pub settled-packed : IsPacked (set bs i c)
      settled-packed =
          let within = h.within b p is in
          let few = block-packed.1 in
          let long = ap (λ (l : List X). length l) (sym (append-nil c) ∙ e) in
          let longer = length-insert b at x within in
          subst IsPacked (sym (recut bs i c p)) (packed-append (take i bs) (c ∷ drop (i + 1) bs) h.front (omega (arith, long, longer, short), λ _. few short, block-packed.2))

  pub nowhere : (bs : List (List X)) (i at : ℕ) (x : X) (goal : List X) → IsPassing bs i at x goal → length bs ≤ i → ⊥
  nowhere bs i at x goal h p = let room = h.room in omega (arith, room, p)

  -- ---- a gap on its way from block to block

  pub record IsClosing (bs : List (List X)) (i : ℕ) (goal : List X) : Type 0 where
    pub front : Each IsFull (take i bs)
    pub gap : IsGapped (drop i bs)
    pub rows : joined bs ≡ goal

  gapped-packed : (b : List X) (bs : List (List X)) → IsGapped (b ∷ bs) → length (joined bs) ≡ 0 → IsPacked (b ∷ bs)
  gapped-packed b bs h none = let less = h.0 in (omega (arith, less), λ _. none, h.2)

  module _ (bs : List (List X)) (i : ℕ) (goal : List X) (h : IsClosing bs i goal) where
    its-packed : IsPacked (drop i bs) → IsPacked bs
    its-packed k = subst IsPacked (take-append-drop i bs) (packed-append (take i bs) (drop i bs) h.front k)

    -- no block is left behind it
    pub closed-last : i < length bs → length bs ≤ i + 1 → IsPacked bs
    closed-last p q =
        let b = get_or bs i [] in
        let here : drop i bs ≡ b ∷ [] = drop_more bs i [] p ∙ ap (λ (l : List (List X)). b ∷ l) (drop_all (i + 1) bs q) in
        its-packed (subst IsPacked (sym here) (gapped-packed b [] (subst IsGapped here h.gap) refl))

    -- the next block has no rows
    pub closed-empty : (b : List X) → i + 1 < length bs → b ≡ get_or bs (i + 1) b → length b ≡ 0 → IsPacked bs
    closed-empty b p is none =
        let a = get_or bs i [] in
        let there = from-here bs (i + 1) b p is in
        let here : drop i bs ≡ a ∷ b ∷ drop (i + 1 + 1) bs = drop_more bs i [] (omega (arith, p)) ∙ ap (λ (l : List (List X)). a ∷ l) there in
        let gap = subst IsGapped here h.gap in
        let few = gap.2.1 in
        let behind : length (joined (b ∷ drop (i + 1 + 1) bs)) ≡ 0 = omega (arith, none, few, length-append b (joined (drop (i + 1 + 1) bs))) in
        its-packed (subst IsPacked (sym here) (gapped-packed a (b ∷ drop (i + 1 + 1) bs) gap behind))

    -- the first row of the next block goes into it
    module _ (a b c : List X) (x : X) (p : i + 1 < length bs) (is_a : a ≡ get_or bs i a) (is_b : b ≡ get_or bs (i + 1) b) (e : b ≡ x ∷ c) where
      abbrev taken : List (List X)
      taken = set bs (i + 1) c

      abbrev later : List (List X)
      later = drop (i + 1 + 1) bs

      here : drop i bs ≡ a ∷ b ∷ later
      here = from-here bs i a (omega (arith, p)) is_a ∙ ap (λ (l : List (List X)). a ∷ l) (from-here bs (i + 1) b p is_b)

      gapped : IsGapped (a ∷ b ∷ later)
      gapped = subst IsGapped here h.gap

      in-taken : i < length taken
      in-taken = omega (arith, p, length-set bs (i + 1) c)

      before : take i taken ≡ take i bs
      before = take-set-le i bs (i + 1) c (omega arith)

      gap-behind : drop (i + 1) (set taken i (a ++ x ∷ [])) ≡ c ∷ later
      gap-behind = behind-set taken i (a ++ x ∷ []) in-taken ∙ from-set bs (i + 1) c p

      moved-rows : joined (set taken i (a ++ x ∷ [])) ≡ joined bs
      moved-rows =
          joined-set taken i (a ++ x ∷ []) in-taken
          ∙ ap (λ (l : List (List X)). joined l ++ ((a ++ x ∷ []) ++ joined (drop (i + 1) taken))) before
          ∙ ap (λ (l : List (List X)). joined (take i bs) ++ ((a ++ x ∷ []) ++ joined l)) (from-set bs (i + 1) c p)
          ∙ ap (λ (l : List X). joined (take i bs) ++ l) (append_assoc a (x ∷ []) (c ++ joined later))
          ∙ ap (λ (l : List X). joined (take i bs) ++ (a ++ (l ++ joined later))) (sym e)
          ∙ sym (joined-append (take i bs) (a ∷ b ∷ later))
          ∙ ap (λ (l : List (List X)). joined (take i bs ++ l)) (sym here)
          ∙ ap joined (take-append-drop i bs)

      moved : IsClosing (set (set bs (i + 1) c) i (a ++ x ∷ [])) (i + 1) goal
      moved =
          let less = gapped.0 in
          let few = gapped.1 in
          let most_b = gapped.2.0 in
          let few_b = gapped.2.1 in
          let long = ap (λ (l : List X). length l) e in
          let sum = length-append b (joined later) in
          let enough = full-before (length a + 1) (length (joined (b ∷ later))) few (omega (arith, long, sum)) in
          let full : IsFull (a ++ x ∷ []) = omega (arith, less, enough, length-append a (x ∷ [])) in
          record {
            front = subst (λ (l : List (List X)). Each IsFull l) (sym (take_more_set taken i (a ++ x ∷ []) in-taken ∙ ap (λ (l : List (List X)). l ++ (a ++ x ∷ []) ∷ []) before)) (each-more (take i bs) (a ++ x ∷ []) h.front full);
            gap = subst IsGapped (sym gap-behind) (omega (arith, most_b, long), λ q. few_b (omega (arith, q, long)), gapped.2.2);
            rows = moved-rows ∙ h.rows;
          }

    pub moved_on : (b c d e : List X) (x : X) (p : i + 1 < length bs) → b ≡ get_or bs (i + 1) b → b ≡ x ∷ c → e ≡ get_or (set bs (i + 1) c) i d ++ x ∷ [] → IsClosing (set (set bs (i + 1) c) i e) (i + 1) goal
    moved_on b c d e x p is_b cut put =
        let a = get_or bs i d in
        let same : get_or (set bs (i + 1) c) i d ≡ a = get_or-set_other bs (i + 1) i c d (λ z. omega (arith, z)) in
        subst (λ (l : List X). IsClosing (set (set bs (i + 1) c) i l) (i + 1) goal) (sym (put ∙ ap (λ (l : List X). l ++ x ∷ []) same)) (moved a b c x p (same_there bs i d (omega (arith, p))) is_b cut)

  -- ---- blocks with no rows

  pub none-more : (bs : List (List X)) → length (joined bs) ≡ 0 → length (joined (bs ++ [] ∷ [])) ≡ 0
  none-more bs none = ap (λ (l : List X). length l) (joined-append bs ([] ∷ [])) ∙ ap (λ (l : List X). length l) (append-nil (joined bs)) ∙ none

  pub none-packed : (bs : List (List X)) → length (joined bs) ≡ 0 → IsPacked bs
  none-packed [] none = tt
  none-packed (b ∷ bs) none =
      let sum = length-append b (joined bs) in
      let more : length (joined bs) ≡ 0 = omega (arith, sum, none) in
      (omega (arith, sum, none), λ _. more, none-packed bs more)
