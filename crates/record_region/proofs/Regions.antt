-- What a put and a free leave of a region.
use Rattle.std.proofs.Common.{◌≡◌, ◌≢◌, ℕ, suc, ◌+◌, ◌-◌, ◌*◌, ◌^◌, ◌<◌, ◌≤◌, ◌⊎◌, List, length, take, get_or, set, Option, Some, None, refl, ap, sym, ◌∙◌, subst, inl, inr, arith}
use Rattle.std.specs.Prelude.{IsSome}
use Rattle.std.proofs.lemmas.Bool.{cases_eq}
use Rattle.std.proofs.lemmas.List.{length-set, length-take}
use Rattle.record_region.specs.declared.chunks.TheConstants.{CHUNK_BYTES}
use Rattle.record_region.specs.Chunks.{chunks_of}
use Rattle.record_region.specs.Places.{Places, used, spare, piece_at, bytes_at, bytes_in, chunks_in, IsLive}
use Rattle.record_region.specs.laws.Laws.{used-set, live_within}
use Rattle.record_region.specs.Chains.{walk, chunk_at, content, marked, places_from, chain_length, IsApart, IsSoundRegion}
use Rattle.record_region.proofs.Stores.{length-content}
use Rattle.record_region.proofs.Labels.{apart_by, not_free, chain-within, walk-other, apart-put, apart-free}
use Rattle.record_region.proofs.Views.{length-places_from, piece_is, marked-same, places_from-set, live_mark, marked_is, chain_is}

-- the first free chunk has no mark
unmarked : (links marks : List ℕ) (head free : ℕ) → IsApart links marks head free → 0 < free → get_or marks head 0 ≡ 0
unmarked links marks head free a p = by_case (cases_eq (get_or marks head 0) 0)
  where
    within : head < length marks
    within = a.free_within 0 p

    by_case : (get_or marks head 0 ≡ 0) ⊎ (get_or marks head 0 ≡ 0 → ⊥) → get_or marks head 0 ≡ 0
    by_case (inl e) = e
    by_case (inr ne) =
        let one : get_or marks head 0 ≡ (get_or marks head 0 - 1) + 1 = omega (arith, ne) in
        let chain : chain_length (get_or marks head 0) ≡ chunks_of (get_or marks head 0 - 1) = chain_is (get_or marks head 0) (get_or marks head 0 - 1) one in
        let mine : 0 < chain_length (get_or marks head 0) = omega arith in
        let free_label = a.free_labels 0 p in
        let piece_label = a.piece_labels head 0 mine in
        absurd (apart_by a.labels head head (length marks) 0 head 0 free_label piece_label (λ e s. let t : length marks ≡ head = e in omega (arith, within)) refl)

-- no piece begins at the first free chunk
pub none_at_head : (store links marks : List ℕ) (head free : ℕ) → IsApart links marks head free → 0 < free → piece_at (places_from store links 0 marks) head ≡ None
none_at_head store links marks head free a p = piece_is store links marks head ∙ ap (λ (m : ℕ). marked store links m head) (unmarked links marks head free a p)

-- the places after a put
pub put_places : (store later links marks bytes : List ℕ) (head free mark : ℕ) → mark ≡ length bytes + 1 → chunks_of (length bytes) ≤ free → IsApart links marks head free → take (length bytes) (content later links (chunks_of (length bytes)) head) ≡ bytes → ((other : ℕ) → ((j : ℕ) → j < chunks_of (length bytes) → walk links j head ≢ other) → chunk_at later other ≡ chunk_at store other) → places_from later links 0 (set marks head mark) ≡ set (places_from store links 0 marks) head (Some bytes)
put_places store later links marks bytes head free mark e most a filled others =
    places_from-set store later links links marks head mark (a.free_within 0 (omega arith))
    (λ i ne. marked-same store later links links (get_or marks i 0) i (λ j p. refl)
    (λ j p. others (walk links j i) (λ m q. apart_by a.labels (walk links m head) (walk links j i) (length marks) m i j (a.free_labels m (omega arith)) (a.piece_labels i j p) (λ r s. not_free marks i j p (sym r)))))
    ∙ ap (λ (p : Option (List ℕ)). set (places_from store links 0 marks) head p)
    (marked_is later links mark (length bytes) head e ∙ ap (λ (xs : List ℕ). Some xs) filled)

-- the fields after a put
pub put_sound : (store later links marks bytes : List ℕ) (head free mark next : ℕ) → mark ≡ length bytes + 1 → next ≡ walk links (chunks_of (length bytes)) head → chunks_of (length bytes) ≤ free → IsSoundRegion store links marks head free → length later ≡ length store → take (length bytes) (content later links (chunks_of (length bytes)) head) ≡ bytes → ((other : ℕ) → ((j : ℕ) → j < chunks_of (length bytes) → walk links j head ≢ other) → chunk_at later other ≡ chunk_at store other) → IsSoundRegion later links (set marks head mark) next (free - chunks_of (length bytes))
put_sound store later links marks bytes head free mark next e f most s long filled others = record {
  store_length = omega (arith, s.store_length, length-set marks head mark);
  links_length = omega (arith, s.links_length, length-set marks head mark);
  few = omega (arith, s.few, length-set marks head mark);
  apart =
      let m : mark ≡ suc (length bytes) = omega arith in
      let P : ℕ → ℕ → Type 0 = λ m n. IsApart links (set marks head m) n (free - chunks_of (length bytes)) in
      subst (λ (k : ℕ). P k next) (sym m) (subst (λ (k : ℕ). P (suc (length bytes)) k) (sym f) (apart-put links marks head free (length bytes) (chunks_of (length bytes)) refl most s.apart));
  counted =
      let inside : head < length (places_from store links 0 marks) = omega (arith, s.apart.free_within 0 (omega arith), length-places_from store links 0 marks) in
      let now : used (places_from later links 0 (set marks head mark)) ≡ used (set (places_from store links 0 marks) head (Some bytes)) = ap used (put_places store later links marks bytes head free mark e most s.apart filled others) in
      let law = used-set (places_from store links 0 marks) head (Some bytes) inside in
      let none : chunks_in (piece_at (places_from store links 0 marks) head) ≡ 0 = ap chunks_in (none_at_head store links marks head free s.apart (omega arith)) in
      omega (arith, s.counted, length-set marks head mark);
}

-- a live piece by its mark
pub live_marked : (store links marks : List ℕ) (piece : ℕ) → IsLive (places_from store links 0 marks) piece → 0 < get_or marks piece 0
live_marked store links marks piece live =
    let P : Option (List ℕ) → Type 0 = λ p. IsSome p in
    live_mark store links (get_or marks piece 0) piece (subst P (piece_is store links marks piece) live)

pub live_inside : (store links marks : List ℕ) (piece : ℕ) → IsLive (places_from store links 0 marks) piece → piece < length marks
live_inside store links marks piece live = omega (arith, live_within (places_from store links 0 marks) piece live, length-places_from store links 0 marks)

pub live_bytes : (store links marks : List ℕ) (piece n : ℕ) → get_or marks piece 0 ≡ n + 1 → piece_at (places_from store links 0 marks) piece ≡ Some (take n (content store links (chunks_of n) piece))
live_bytes store links marks piece n e = piece_is store links marks piece ∙ marked_is store links (get_or marks piece 0) n piece e

pub chain_inside : (store links marks : List ℕ) (head free piece n : ℕ) → IsSoundRegion store links marks head free → get_or marks piece 0 ≡ n + 1 → (j : ℕ) → j < chunks_of n → walk links j piece < length links
chain_inside store links marks head free piece n s e j p =
    let c : chain_length (get_or marks piece 0) ≡ chunks_of n = chain_is (get_or marks piece 0) n e in
    omega (arith, s.apart.piece_within piece j (omega arith), s.links_length)

pub live_length : (store links marks : List ℕ) (head free piece n : ℕ) → IsSoundRegion store links marks head free → get_or marks piece 0 ≡ n + 1 → length (bytes_at (places_from store links 0 marks) piece) ≡ n
live_length store links marks head free piece n s e =
    let long : length (content store links (chunks_of n) piece) ≡ CHUNK_BYTES * chunks_of n = length-content store links (chunks_of n) piece (λ j p. let w : walk links j piece < length links = chain_inside store links marks head free piece n s e j p in omega (arith, s.store_length, s.links_length)) in
    ap (λ (p : Option (List ℕ)). length (bytes_in p)) (live_bytes store links marks piece n e) ∙ omega (arith, length-take n (content store links (chunks_of n) piece))

-- the places after a free
pub free_places : (store links marks : List ℕ) (head free piece last : ℕ) → chain_length (get_or marks piece 0) ≡ suc last → IsApart links marks head free → places_from store (set links (walk links last piece) head) 0 (set marks piece 0) ≡ set (places_from store links 0 marks) piece None
free_places store links marks head free piece last e a =
    places_from-set store store links (set links (walk links last piece) head) marks piece 0 (chain-within marks piece last (omega arith))
    (λ i ne. marked-same store store links (set links (walk links last piece) head) (get_or marks i 0) i
    (λ j p. walk-other links marks head free piece last a (a.piece_labels piece last (omega arith)) i ne j p) (λ j p. refl))

-- the fields after a free
pub free_sound : (store links marks : List ℕ) (head free piece n : ℕ) → get_or marks piece 0 ≡ n + 1 → IsSoundRegion store links marks head free → IsSoundRegion store (set links (walk links (chunks_of n - 1) piece) head) (set marks piece 0) piece (free + chunks_of n)
free_sound store links marks head free piece n e s = record {
  store_length = omega (arith, s.store_length, length-set marks piece 0);
  links_length = omega (arith, s.links_length, length-set marks piece 0, length-set links (walk links (chunks_of n - 1) piece) head);
  few = omega (arith, s.few, length-set marks piece 0);
  apart =
      let P : ℕ → Type 0 = λ k. IsApart (set links (walk links (chunks_of n - 1) piece) head) (set marks piece 0) piece (free + k) in
      let k : suc (chunks_of n - 1) ≡ chunks_of n = omega arith in
      subst P k (apart-free links marks head free piece (chunks_of n - 1) chain s.links_length s.apart);
  counted =
      let inside : piece < length (places_from store links 0 marks) = omega (arith, chain-within marks piece (chunks_of n - 1) (omega (arith, chain)), length-places_from store links 0 marks) in
      let now : used (places_from store (set links (walk links (chunks_of n - 1) piece) head) 0 (set marks piece 0)) ≡ used (set (places_from store links 0 marks) piece None) = ap used (free_places store links marks head free piece (chunks_of n - 1) chain s.apart) in
      let law = used-set (places_from store links 0 marks) piece None inside in
      let bytes = live_bytes store links marks piece n e in
      let taken : chunks_in (piece_at (places_from store links 0 marks) piece) ≡ chunks_of (length (take n (content store links (chunks_of n) piece))) = ap chunks_in bytes in
      let size : length (bytes_in (piece_at (places_from store links 0 marks) piece)) ≡ length (take n (content store links (chunks_of n) piece)) = ap (λ (p : Option (List ℕ)). length (bytes_in p)) bytes in
      let long : length (take n (content store links (chunks_of n) piece)) ≡ n = sym size ∙ live_length store links marks head free piece n s e in
      let all : chunks_of (length (take n (content store links (chunks_of n) piece))) ≡ chunks_of n = ap chunks_of long in
      omega (arith, s.counted, length-set marks piece 0);
}
  where
    chain : chain_length (get_or marks piece 0) ≡ suc (chunks_of n - 1)
    chain =
        let c : chain_length (get_or marks piece 0) ≡ chunks_of n = chain_is (get_or marks piece 0) n e in
        omega arith

-- what the fields say of a live piece of `size` bytes
pub record IsHeld (store links marks : List ℕ) (seen : Places) (piece size : ℕ) : Type 0 where
  pub mark : get_or marks piece 0 ≡ size + 1
  pub inside : piece < length marks
  pub chain : (j : ℕ) → j < chunks_of size → walk links j piece < length links
  pub bytes : bytes_at seen piece ≡ take size (content store links (chunks_of size) piece)
  pub long : length (bytes_at seen piece) ≡ size

pub held : (store links marks : List ℕ) (head free : ℕ) (seen : Places) (piece : ℕ) → places_from store links 0 marks ≡ seen → IsSoundRegion store links marks head free → IsLive seen piece → IsHeld store links marks seen piece (get_or marks piece 0 - 1)
held store links marks head free seen piece view s live = subst (λ (p : Places). IsHeld store links marks p piece (get_or marks piece 0 - 1)) view (record {
  mark = mark;
  inside = live_inside store links marks piece here;
  chain = chain_inside store links marks head free piece (get_or marks piece 0 - 1) s mark;
  bytes = ap bytes_in (live_bytes store links marks piece (get_or marks piece 0 - 1) mark);
  long = live_length store links marks head free piece (get_or marks piece 0 - 1) s mark;
})
  where
    here : IsLive (places_from store links 0 marks) piece
    here = subst (λ (p : Places). IsLive p piece) (sym view) live

    mark : get_or marks piece 0 ≡ (get_or marks piece 0 - 1) + 1
    mark = omega (arith, live_marked store links marks piece here)

-- by its length
pub held_by : (store links marks : List ℕ) (head free : ℕ) (seen : Places) (piece chunk size : ℕ) → places_from store links 0 marks ≡ seen → IsSoundRegion store links marks head free → IsLive seen piece → chunk ≡ piece → size ≡ length (bytes_at seen piece) → IsHeld store links marks seen chunk size
held_by store links marks head free seen piece chunk size view s live at e =
    let h = held store links marks head free seen piece view s live in
    subst (λ (k : ℕ). IsHeld store links marks seen k size) (sym at)
    (subst (λ (n : ℕ). IsHeld store links marks seen piece n) (sym (e ∙ h.long)) h)

-- a region after a free
pub record IsFreed (store links marks : List ℕ) (head free : ℕ) (seen : Places) (chunk count last : ℕ) : Type 0 where
  pub sound : IsSoundRegion store (set links last head) (set marks chunk 0) chunk (free + count)
  pub places : places_from store (set links last head) 0 (set marks chunk 0) ≡ set seen chunk None
  pub few : free + count < 2 ^ 32

pub freed : (store links marks : List ℕ) (head free : ℕ) (seen : Places) (piece size count last : ℕ) → places_from store links 0 marks ≡ seen → IsSoundRegion store links marks head free → IsHeld store links marks seen piece size → count ≡ chunks_of size → last ≡ walk links (count - 1) piece → IsFreed store links marks head free seen piece count last
freed store links marks head free seen piece size count last view s h e f =
    subst (λ (k : ℕ). IsFreed store links marks head free seen piece k last) (sym e)
    (subst (λ (l : ℕ). IsFreed store links marks head free seen piece (chunks_of size) l) (sym (f ∙ ap (λ (k : ℕ). walk links (k - 1) piece) e)) (record {
      sound = sound;
      places = free_places store links marks head free piece (chunks_of size - 1) chain s.apart ∙ ap (λ (p : Places). set p piece None) view;
      few = omega (arith, sound.few, sound.counted);
    }))
  where
    sound : IsSoundRegion store (set links (walk links (chunks_of size - 1) piece) head) (set marks piece 0) piece (free + chunks_of size)
    sound = free_sound store links marks head free piece size h.mark s

    chain : chain_length (get_or marks piece 0) ≡ suc (chunks_of size - 1)
    chain =
        let c : chain_length (get_or marks piece 0) ≡ chunks_of size = chain_is (get_or marks piece 0) size h.mark in
        omega arith

-- the free chunks that a region counts are those that no live piece takes
pub spare_is : (store links marks : List ℕ) (head free : ℕ) (seen : Places) → places_from store links 0 marks ≡ seen → IsSoundRegion store links marks head free → free ≡ spare seen
spare_is store links marks head free seen view s = subst (λ (p : Places). free ≡ spare p) view (omega (arith, s.counted, length-places_from store links 0 marks))

pub used_within : (store links marks : List ℕ) (head free : ℕ) (seen : Places) → places_from store links 0 marks ≡ seen → IsSoundRegion store links marks head free → used seen ≤ length seen
used_within store links marks head free seen view s = subst (λ (p : Places). used p ≤ length p) view (omega (arith, s.counted, length-places_from store links 0 marks))

-- the chunks of a put are apart
pub free_apart : (links marks : List ℕ) (head free : ℕ) → IsApart links marks head free → (i j : ℕ) → i < j → j < free → walk links i head ≢ walk links j head
free_apart links marks head free a i j p q = apart_by a.labels (walk links i head) (walk links j head) (length marks) i (length marks) j (a.free_labels i (omega arith)) (a.free_labels j q) (λ r s. let t : i ≡ j = s in omega arith)

pub free_inside : (store links marks : List ℕ) (head free : ℕ) → IsSoundRegion store links marks head free → (j : ℕ) → j < free → walk links j head < length links
free_inside store links marks head free s j p = omega (arith, s.apart.free_within j p, s.links_length)

-- a region after a put
pub record IsPut (later links marks bytes : List ℕ) (head free : ℕ) (seen : Places) (count next : ℕ) : Type 0 where
  pub sound : IsSoundRegion later links (set marks head (length bytes + 1)) next (free - count)
  pub places : places_from later links 0 (set marks head (length bytes + 1)) ≡ set seen head (Some bytes)
  pub within : head < length seen
  pub unused : piece_at seen head ≡ None

pub put_done : (store later written links marks bytes : List ℕ) (head free : ℕ) (seen : Places) (count next : ℕ) → places_from store links 0 marks ≡ seen → IsSoundRegion store links marks head free → count ≡ chunks_of (length bytes) → count ≤ free → later ≡ written → length written ≡ length store → next ≡ walk links (chunks_of (length bytes)) head → take (length bytes) (content written links (chunks_of (length bytes)) head) ≡ bytes → ((other : ℕ) → ((j : ℕ) → j < chunks_of (length bytes) → walk links j head ≢ other) → chunk_at written other ≡ chunk_at store other) → IsPut later links marks bytes head free seen count next
put_done store later written links marks bytes head free seen count next view s e most same long end filled others =
    subst (λ (xs : List ℕ). IsPut xs links marks bytes head free seen count next) (sym same)
    (subst (λ (p : Places). IsPut written links marks bytes head free p count next) view
    (subst (λ (k : ℕ). IsPut written links marks bytes head free (places_from store links 0 marks) k next) (sym e) (record {
      sound = put_sound store written links marks bytes head free (length bytes + 1) next refl end (omega arith) s long filled others;
      places = put_places store written links marks bytes head free (length bytes + 1) refl (omega arith) s.apart filled others;
      within = omega (arith, s.apart.free_within 0 (omega arith), length-places_from store links 0 marks);
      unused = none_at_head store links marks head free s.apart (omega arith);
    })))
