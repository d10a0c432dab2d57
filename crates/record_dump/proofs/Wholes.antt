-- A dump that is done is one whole list.
use Rattle.std.proofs.Common.{◌≡◌, ◌+◌, ◌/◌, ℕ, List, ◌++◌, length, refl, ap, sym, ◌∙◌, subst, arith}
use Rattle.std.proofs.lemmas.List.{length-append}
use Rattle.kj_value.specs.Json.{Json}
use Rattle.edge_io.specs.Exchanges.{Exchange}
use Rattle.place.specs.Place.{Names}
use Rattle.wire_client.specs.Answers.{Reply, given, broken, long, gone, code, shape}
use Rattle.far_migrate.specs.Pages.{objects_of}
use Rattle.record_dump.specs.Lines.{lines_of}
use Rattle.record_dump.specs.Dumps as dumps
use Rattle.record_dump.specs.Dumps.{Walk, Dumps, at_first, FailsList, IsUnwritten}
use Rattle.record_dump.specs.Told as told
use Rattle.record_dump.specs.Told.{Lists, IsWhole}
use Rattle.record_dump.specs.declared.ends.DumpEnd.{DumpEnd}
use Rattle.record_dump.specs.declared.ends.DumpEnd.TheVariants as ends
use Rattle.record_dump.proofs.Written.{lines_both}

record Whole (n : Names) (a : Walk) (es : List Exchange) (w : List ℕ) (k : ℕ) : Type 0 where
  objects : List Json
  lists : Lists n a es objects
  wrote : w ≡ lines_of objects
  count : k ≡ a.listed + length objects

no_done : (r : Reply) (k : ℕ) → FailsList r (ends.Done k) → ⊥
no_done (given j) k f = f
no_done broken k f = cc
no_done long k f = f
no_done gone k f = cc
no_done (code c) k f = let same = f.1 in cc
no_done (shape path) k f = cc

whole_from : (n : Names) (a : Walk) (es : List Exchange) (w : List ℕ) (d : DumpEnd) (k : ℕ) → d ≡ ends.Done k → Dumps n a es w d → Whole n a es w k
whole_from n _ _ _ _ k is (dumps.last a j e did goes empty) = record {
  objects = objects_of j;
  lists = told.last _ j e did goes empty;
  wrote = refl;
  count = let same : a.listed + length (objects_of j) ≡ k = cc in sym same;
}
whole_from n _ _ _ _ k is (dumps.page a j e es w d did goes more rest) =
    let r = whole_from n (dumps.after_page a j) es w d k is rest in
    let both : length (objects_of j ++ r.objects) ≡ length (objects_of j) + length r.objects = length-append (objects_of j) r.objects in
    record {
      objects = objects_of j ++ r.objects;
      lists = told.page _ j e es r.objects did goes more r.lists;
      wrote = ap (λ (v : List ℕ). lines_of (objects_of j) ++ v) r.wrote ∙ sym (lines_both (objects_of j) r.objects);
      count = omega (arith, both, r.count);
    }
whole_from n _ _ _ _ k is (dumps.halved a e es w d did some rest) =
    let r = whole_from n (record a { limit = a.limit / 2 }) es w d k is rest in
    record { objects = r.objects; lists = told.shorter _ e es r.objects did some r.lists; wrote = r.wrote; count = r.count }
whole_from n _ _ _ _ k is (dumps.unwritten a j e front back d did goes split ends) = absurd (subst (λ (x : DumpEnd). IsUnwritten x) is ends)
whole_from n _ _ _ _ k is (dumps.other a j e did other) = absurd (cc)
whole_from n _ _ _ _ k is (dumps.too_long a e did one) = absurd (cc)
whole_from n _ _ _ _ k is (dumps.too_old a e did) = absurd (cc)
whole_from n _ _ _ _ k is (dumps.list_fails a e r d did fails) = absurd (no_done r k (subst (λ (x : DumpEnd). FailsList r x) is fails))
whole_from n _ _ _ _ k is (dumps.unlisted a) = absurd (cc)
whole_from n _ _ _ _ k is (dumps.unread a e asked) = absurd (cc)

pub whole : (n : Names) (es : List Exchange) (w : List ℕ) (k : ℕ) → Dumps n at_first es w (ends.Done k) → IsWhole n es w k
whole n es w k dumped =
    let r = whole_from n at_first es w (ends.Done k) k refl dumped in
    let many = r.count in
    record { objects = r.objects; lists = r.lists; wrote = r.wrote; count = omega (arith, many) }
