-- The laws of the window: the floor that is computed from the oldest record on is the least one, and a window goes on by one record.
use Rattle.std.proofs.Common.{◌≡◌, ℕ, ◌+◌, ◌<◌, ◌≤◌, List, [], ◌∷◌, ◌++◌, Bool, true, false, ap, refl, sym, ◌∙◌, arith, length, nat_lt, inl, inr}
use Rattle.std.specs.Prelude.{if◌then◌else◌, ◌&&◌, not, ◌⊎◌}
use Rattle.std.proofs.lemmas.Bool.Decides.{nat_tests}
use Rattle.kube_meta.specs.declared.limits.Limits.{Limits}
use Rattle.kube_meta.specs.Window.{weights, fits, newest, floor_from, above, IsFloor, RisesFrom}

within : (a b : ℕ) → not (nat_lt a b) ≡ true → b ≤ a
within a b h = grind (arith, nat_tests)

is_within : (a b : ℕ) → b ≤ a → not (nat_lt a b) ≡ true
is_within a b h = grind (arith, nat_tests)

below : (a b : ℕ) → a < b → nat_lt a b ≡ true
below a b h = grind (arith, nat_tests)

not_below : (a b : ℕ) → b ≤ a → nat_lt a b ≡ false
not_below a b h = grind (arith, nat_tests)

both : (a b : Bool) → (a && b) ≡ true → (a ≡ true) × (b ≡ true)
both true b h = (refl, h)
both false b h = cc

all_of : (a b : Bool) → a ≡ true → b ≡ true → (a && b) ≡ true
all_of a b h g = rw (h, g) refl

clash : (b : Bool) → b ≡ true → b ≡ false → ⊥
clash b h g = cc

falsely : (b : Bool) → (b ≡ true → ⊥) → b ≡ false
falsely true h = absurd (h refl)
falsely false h = refl

module _ {X : Type 0} (number weight : X → ℕ) (limits : Limits) where
  pub fits-bounds : (xs : List X) → fits weight limits xs ≡ true → (length xs ≤ limits.window_records) × (weights weight xs ≤ limits.window_chunks)
  fits-bounds xs h =
      let parts = both (not (nat_lt limits.window_records (length xs))) (not (nat_lt limits.window_chunks (weights weight xs))) h in
      (within limits.window_records (length xs) parts.0, within limits.window_chunks (weights weight xs) parts.1)

  pub bounds-fit : (xs : List X) → length xs ≤ limits.window_records → weights weight xs ≤ limits.window_chunks → fits weight limits xs ≡ true
  bounds-fit xs a b =
      all_of (not (nat_lt limits.window_records (length xs))) (not (nat_lt limits.window_chunks (weights weight xs)))
      (is_within limits.window_records (length xs) a) (is_within limits.window_chunks (weights weight xs) b)

  pub weights-append : (xs ys : List X) → weights weight (xs ++ ys) ≡ weights weight xs + weights weight ys
  weights-append [] ys = omega arith
  weights-append (x ∷ xs) ys = let e = weights-append xs ys in omega (arith, e)

  long : (xs : List X) (x : X) → length (xs ++ x ∷ []) ≡ length xs + 1
  long [] x = refl
  long (y ∷ xs) x = let e = long xs x in omega (arith, e)

  fits-less : (xs : List X) (y : X) → fits weight limits (xs ++ y ∷ []) ≡ true → fits weight limits xs ≡ true
  fits-less xs y h =
      let parts = fits-bounds (xs ++ y ∷ []) h in
      let l = long xs y in
      let w = weights-append xs (y ∷ []) in
      bounds-fit xs (omega (arith, parts.0, l)) (omega (arith, parts.1, w))

  above-all : (f : ℕ) (g : ℕ) (xs : List X) → g ≤ f → RisesFrom number f xs → above number g xs ≡ xs
  above-all f g [] le r = refl
  above-all f g (x ∷ xs) le r =
      let lt = below g (number x) (omega (arith, r.0)) in
      let more = above-all (number x) g xs (omega (arith, r.0)) r.1 in
      rw lt (ap (λ (t : List X). x ∷ t) more)

  floor-up : (f : ℕ) (xs : List X) → RisesFrom number f xs → f ≤ floor_from number weight limits f xs
  floor-up f [] r = omega arith
  floor-up f (x ∷ xs) r = by (fits weight limits (x ∷ xs)) (floor-up (number x) xs r.1)
    where
      by : (b : Bool) → number x ≤ floor_from number weight limits (number x) xs → f ≤ (if b then f else floor_from number weight limits (number x) xs)
      by true up = omega arith
      by false up = omega (arith, r.0, up)

  -- what is above the floor is what the window keeps
  pub above-floor : (f : ℕ) (xs : List X) → RisesFrom number f xs → above number (floor_from number weight limits f xs) xs ≡ newest weight limits xs
  above-floor f [] r = refl
  above-floor f (x ∷ xs) r = by (fits weight limits (x ∷ xs)) (above-floor (number x) xs r.1) (floor-up (number x) xs r.1)
    where
      by : (b : Bool) → above number (floor_from number weight limits (number x) xs) xs ≡ newest weight limits xs → number x ≤ floor_from number weight limits (number x) xs
          → above number (if b then f else floor_from number weight limits (number x) xs) (x ∷ xs) ≡ (if b then x ∷ xs else newest weight limits xs)
      by true more up = above-all f f (x ∷ xs) (omega arith) r
      by false more up = let no = not_below (floor_from number weight limits (number x) xs) (number x) up in rw no more

  pub newest-fits : (xs : List X) → fits weight limits (newest weight limits xs) ≡ true
  newest-fits [] = bounds-fit [] (omega arith) (omega arith)
  newest-fits (x ∷ xs) = by (fits weight limits (x ∷ xs)) refl (newest-fits xs)
    where
      by : (b : Bool) → fits weight limits (x ∷ xs) ≡ b → fits weight limits (newest weight limits xs) ≡ true → fits weight limits (if b then x ∷ xs else newest weight limits xs) ≡ true
      by true is more = is
      by false is more = more

  floor-least : (f : ℕ) (xs : List X) → RisesFrom number f xs → (g : ℕ) → f ≤ g → fits weight limits (above number g xs) ≡ true → floor_from number weight limits f xs ≤ g
  floor-least f [] r g le h = le
  floor-least f (x ∷ xs) r g le h = by (fits weight limits (x ∷ xs)) refl (floor-least (number x) xs r.1 g) (nat_lt g (number x)) refl
    where
      by : (b : Bool) → fits weight limits (x ∷ xs) ≡ b
          → (number x ≤ g → fits weight limits (above number g xs) ≡ true → floor_from number weight limits (number x) xs ≤ g)
          → (c : Bool) → nat_lt g (number x) ≡ c
          → (if b then f else floor_from number weight limits (number x) xs) ≤ g
      by true is more c is_c = le
      by false is more true is_c =
          let lt : g < number x = grind (arith, nat_tests) in
          let all : above number g (x ∷ xs) ≡ x ∷ xs = rw is_c (ap (λ (t : List X). x ∷ t) (above-all (number x) g xs (omega (arith, lt)) r.1)) in
          let both : fits weight limits (x ∷ xs) ≡ true = ap (fits weight limits) (sym all) ∙ h in
          absurd (clash (fits weight limits (x ∷ xs)) both is)
      by false is more false is_c =
          let up : number x ≤ g = grind (arith, nat_tests) in
          let same : above number g (x ∷ xs) ≡ above number g xs = rw is_c refl in
          more up (ap (fits weight limits) (sym same) ∙ h)

  pub is-floor : (xs : List X) → RisesFrom number 1 xs → IsFloor number weight limits xs (floor_from number weight limits 1 xs)
  is-floor xs r = record {
    one = floor-up 1 xs r;
    room = ap (fits weight limits) (above-floor 1 xs r) ∙ newest-fits xs;
    least = floor-least 1 xs r;
  }

  pub one-floor : (xs : List X) (f g : ℕ) → IsFloor number weight limits xs f → IsFloor number weight limits xs g → f ≡ g
  one-floor xs f g a b = let le = a.least g b.one b.room in let ge = b.least f a.one a.room in omega (arith, le, ge)

  -- one more thing: the window need not see what it let go
  pub newest-more : (xs : List X) (y : X) → newest weight limits (newest weight limits xs ++ y ∷ []) ≡ newest weight limits (xs ++ y ∷ [])
  newest-more [] y = refl
  newest-more (x ∷ xs) y = by (fits weight limits (x ∷ xs)) refl (newest-more xs y)
    where
      by : (b : Bool) → fits weight limits (x ∷ xs) ≡ b → newest weight limits (newest weight limits xs ++ y ∷ []) ≡ newest weight limits (xs ++ y ∷ [])
          → newest weight limits ((if b then x ∷ xs else newest weight limits xs) ++ y ∷ []) ≡ newest weight limits (x ∷ (xs ++ y ∷ []))
      by true is more = refl
      by false is more =
          let no : fits weight limits (x ∷ (xs ++ y ∷ [])) ≡ false =
          falsely (fits weight limits (x ∷ (xs ++ y ∷ []))) (λ h. clash (fits weight limits (x ∷ xs)) (fits-less (x ∷ xs) y h) is) in
          rw no more

  pub floor-more : (f : ℕ) (xs : List X) (y : X)
      → floor_from number weight limits (floor_from number weight limits f xs) (newest weight limits xs ++ y ∷ []) ≡ floor_from number weight limits f (xs ++ y ∷ [])
  floor-more f [] y = refl
  floor-more f (x ∷ xs) y = by (fits weight limits (x ∷ xs)) refl (floor-more (number x) xs y)
    where
      by : (b : Bool) → fits weight limits (x ∷ xs) ≡ b
          → floor_from number weight limits (floor_from number weight limits (number x) xs) (newest weight limits xs ++ y ∷ []) ≡ floor_from number weight limits (number x) (xs ++ y ∷ [])
          → floor_from number weight limits (if b then f else floor_from number weight limits (number x) xs) ((if b then x ∷ xs else newest weight limits xs) ++ y ∷ [])
          ≡ floor_from number weight limits f (x ∷ (xs ++ y ∷ []))
      by true is more = refl
      by false is more =
          let no : fits weight limits (x ∷ (xs ++ y ∷ [])) ≡ false =
          falsely (fits weight limits (x ∷ (xs ++ y ∷ []))) (λ h. clash (fits weight limits (x ∷ xs)) (fits-less (x ∷ xs) y h) is) in
          rw no more

  -- for the code: the oldest is let go while the next does not fit beside
  pub newest-fitting : (xs : List X) → fits weight limits xs ≡ true → newest weight limits xs ≡ xs
  newest-fitting [] h = refl
  newest-fitting (x ∷ xs) h = rw h refl

  pub floor-fitting : (f : ℕ) (xs : List X) → fits weight limits xs ≡ true → floor_from number weight limits f xs ≡ f
  floor-fitting f [] h = refl
  floor-fitting f (x ∷ xs) h = rw h refl

  pub newest-unfit : (x : X) (xs : List X) → fits weight limits (x ∷ xs) ≡ false → newest weight limits (x ∷ xs) ≡ newest weight limits xs
  newest-unfit x xs h = rw h refl

  pub floor-unfit : (f : ℕ) (x : X) (xs : List X) → fits weight limits (x ∷ xs) ≡ false → floor_from number weight limits f (x ∷ xs) ≡ floor_from number weight limits (number x) xs
  floor-unfit f x xs h = rw h refl

  unfit : (xs : List X) → (fits weight limits xs ≡ true → ⊥) → fits weight limits xs ≡ false
  unfit xs h = falsely (fits weight limits xs) h

  fits-rest : (x : X) (xs : List X) → fits weight limits (x ∷ xs) ≡ true → fits weight limits xs ≡ true
  fits-rest x xs h = let parts = fits-bounds (x ∷ xs) h in bounds-fit xs (omega (arith, parts.0)) (omega (arith, parts.1))

  -- one that does not fit alone leaves nothing
  pub alone : (xs : List X) (y : X) (f : ℕ) → fits weight limits (y ∷ []) ≡ false
      → (newest weight limits (xs ++ y ∷ []) ≡ []) × (floor_from number weight limits f (xs ++ y ∷ []) ≡ number y)
  alone [] y f no_room = (rw no_room refl, rw no_room refl)
  alone (x ∷ xs) y f no_room =
      let more = alone xs y (number x) no_room in
      let big : fits weight limits (x ∷ (xs ++ y ∷ [])) ≡ false = unfit (x ∷ (xs ++ y ∷ [])) (λ h. clash (fits weight limits (y ∷ [])) (suffix xs y (fits-rest x (xs ++ y ∷ []) h)) no_room) in
      (rw big more.0, rw big more.1)
    where
      suffix : (xs : List X) (y : X) → fits weight limits (xs ++ y ∷ []) ≡ true → fits weight limits (y ∷ []) ≡ true
      suffix [] y h = h
      suffix (z ∷ zs) y h = suffix zs y (fits-rest z (zs ++ y ∷ []) h)

  pub too_big : (y : X) → (limits.window_records ≡ 0) ⊎ (limits.window_chunks < weight y) → fits weight limits (y ∷ []) ≡ false
  too_big y (inl none) = unfit (y ∷ []) (λ h. let parts = fits-bounds (y ∷ []) h in omega (arith, parts.0, none))
  too_big y (inr heavy) = unfit (y ∷ []) (λ h. let parts = fits-bounds (y ∷ []) h in omega (arith, parts.1, heavy))

  -- the oldest goes, since the next does not fit beside all
  pub popped : (xs rest : List X) (old new : X) (f : ℕ) → xs ≡ old ∷ rest → (limits.window_records ≤ length xs) ⊎ (limits.window_chunks < weights weight xs + weight new)
      → (newest weight limits (rest ++ new ∷ []) ≡ newest weight limits (xs ++ new ∷ []))
      × (floor_from number weight limits (number old) (rest ++ new ∷ []) ≡ floor_from number weight limits f (xs ++ new ∷ []))
  popped xs rest old new f is full =
      let no = unfit (xs ++ new ∷ []) (λ h.
      let parts = fits-bounds (xs ++ new ∷ []) h in
      let l = long xs new in
      let w = weights-append xs (new ∷ []) in
      elim full [ inl many ↦ omega (arith, parts.0, l, many) | inr heavy ↦ omega (arith, parts.1, w, heavy) ]) in
      let no2 : fits weight limits (old ∷ (rest ++ new ∷ [])) ≡ false = ap (λ (t : List X). fits weight limits (t ++ new ∷ [])) (sym is) ∙ no in (
        sym (newest-unfit old (rest ++ new ∷ []) no2) ∙ ap (λ (t : List X). newest weight limits (t ++ new ∷ [])) (sym is),
        sym (floor-unfit f old (rest ++ new ∷ []) no2) ∙ ap (λ (t : List X). floor_from number weight limits f (t ++ new ∷ [])) (sym is),
      )

  -- at the end all fit
  pub placed : (xs : List X) (new : X) (f : ℕ) → length xs + 1 ≤ limits.window_records → weights weight xs + weight new ≤ limits.window_chunks
      → (newest weight limits (xs ++ new ∷ []) ≡ xs ++ new ∷ []) × (floor_from number weight limits f (xs ++ new ∷ []) ≡ f)
      × (weights weight (xs ++ new ∷ []) ≡ weights weight xs + weight new)
  placed xs new f few light =
      let l = long xs new in
      let w = weights-append xs (new ∷ []) in
      let ok = bounds-fit (xs ++ new ∷ []) (omega (arith, l, few)) (omega (arith, w, light)) in
      (newest-fitting (xs ++ new ∷ []) ok, floor-fitting f (xs ++ new ∷ []) ok, omega (arith, w))

  -- the window stands for all that came, and goes on doing so
  pub covered-more : (all : List X) (items after : List X) (f g : ℕ) (new : X) → items ≡ newest weight limits all → f ≡ floor_from number weight limits 1 all
      → after ≡ newest weight limits (items ++ new ∷ []) → g ≡ floor_from number weight limits f (items ++ new ∷ [])
      → (after ≡ newest weight limits (all ++ new ∷ [])) × (g ≡ floor_from number weight limits 1 (all ++ new ∷ []))
  covered-more all items after f g new is floor then_is then_floor = (
    then_is ∙ ap (λ (t : List X). newest weight limits (t ++ new ∷ [])) is ∙ newest-more all new,
    then_floor ∙ ap (λ (t : List X). floor_from number weight limits f (t ++ new ∷ [])) is
        ∙ ap (λ (h : ℕ). floor_from number weight limits h (newest weight limits all ++ new ∷ [])) floor ∙ floor-more 1 all new,
  )
