-- For private clauses: connections that are being served.
use Rattle.std.specs.Prelude.{ℕ, ◌≡◌, ◌≤◌, ◌+◌, ◌⊎◌, List, [], ◌∷◌, ◌++◌, length, Option, Some}
use mathlib.Core.List.{IsPrefix}
use Rattle.api_calls.specs.Item.{Logged, items_of}
use Rattle.edge_io.specs.Connections.{Origin, Ending}
use Rattle.turn_cell.specs.Numbers.{In}
use Rattle.turn_cell.specs.Rule.{parts_of}
use Rattle.turn_cell.specs.Views.{IsAlone, numbers_of}
use Rattle.turn_cell.specs.declared.view.View.{View}
use Rattle.serve_spans.specs.Spans.{Service, Span, AllServed, AreApart, AreLate}
use Rattle.serve_spans.specs.Owners.{At, Within, IsOfWorker}
use Rattle.serve_spans.specs.Served.{Among, origins_of, HandsOutAll, AddsAll, AreWorkers, AreAll}

-- the number of each span is one of these, and each ends by k
abbrev pub ArePast : List ℕ → ℕ → List Span → Type 0
ArePast ns k [] = Unit {0}
ArePast ns k (s ∷ ss) = (In s.number ns × (s.to ≤ k)) × ArePast ns k ss

-- Of the origins hs that were handed out, those of cs were given back and `out` are still being served. The pass v, whose number is n, has the list so far
pub record IsServing {B : Type 0} (Serves : Service) (n : ℕ) (v0 : View B) (out : List (Option Origin)) (v : View B) (hs : List (Option Origin)) (cs : List Ending) (spans : List Span) : Type 0 where
  pub number : v.number ≡ Some n
  pub base : v.base ≡ v0.base
  pub grows : IsPrefix v0.seen v.seen
  pub served : AllServed Serves v.seen cs spans
  pub late : AreLate (length v0.seen) spans
  pub past : ArePast (numbers_of v) (length v.seen) spans
  pub apart : AreApart spans
  pub count : length hs ≡ length cs + length out
  pub each : (o : Option Origin) → Among o hs → Among o (origins_of cs) ⊎ Among o out

-- What the pass v has seen since it was v0: each item of a pass that was met into it stands in a span of its pass, or is one of Works. Where both are alone there are no others
pub record IsCovering {B : Type 0} (Works : Logged → Type 0) (v0 v : View B) (spans : List Span) : Type 0 where
  pub covered : (i : ℕ) (x : Logged) → At v.seen i x → length v0.seen ≤ i → In x.by (numbers_of v) → Within spans i x ⊎ Works x
  pub only : IsAlone v0 → IsAlone v → (m : ℕ) → ¬ In m (numbers_of v) → items_of m v.seen ≡ items_of m v0.seen

-- ---- shares

abbrev pub parts_all : {B : Type 0} → ℕ → List (View B) → ℕ
parts_all k [] = 0
parts_all k (v ∷ vs) = parts_of k v.share + parts_all k vs

abbrev pub AllDeep : {B : Type 0} → ℕ → List (View B) → Type 0
AllDeep k [] = Unit {0}
AllDeep k (v ∷ vs) = (v.share.halves ≤ k) × AllDeep k vs

-- the shares of v and of these passes are together that of v0, in parts of 2 ^ scale
pub record IsShared {B : Type 0} (v0 v : View B) (outs : List (View B)) : Type 0 where
  pub scale : ℕ
  pub deep : (v0.share.halves ≤ scale) × (v.share.halves ≤ scale) × AllDeep scale outs
  pub parts : parts_of scale v.share + parts_all scale outs ≡ parts_of scale v0.share

-- ---- what goes on

-- a connection that is being served: its pass as it began, and its origin
abbrev pub Job : Type 0 → Type 0
Job B = View B × Option Origin

module _ {B : Type 0} where
  abbrev pub out_of : List (Job B) → List (Option Origin)
  out_of [] = []
  out_of (j ∷ js) = j.1 ∷ out_of js

  abbrev pub views_of : List (Job B) → List (View B)
  views_of [] = []
  views_of (j ∷ js) = j.0 ∷ views_of js

  -- a pass that was made after v0, with a number of its own
  abbrev pub IsBegun : View B → View B → Type 0
  IsBegun v0 p = ((m : ℕ) × (p.number ≡ Some m) × (p.met ≡ []) × (items_of m p.seen ≡ [])) × IsPrefix v0.seen p.seen

  abbrev pub AllBegun : View B → List (View B) → Type 0
  AllBegun v0 [] = Unit {0}
  AllBegun v0 (p ∷ ps) = IsBegun v0 p × AllBegun v0 ps

-- So many connections were handed out since the pass was v0, whose number is n. So many workers were asked for, of whom so many have no thread. `crew` are the passes of workers that work, and `jobs` the connections that are still being served. The pass is v
pub record Going {B : Type 0} (Serves : Service) (n asked idle : ℕ) (v0 : View B) (h0 : Option (List Origin)) (g0 : Option (List Ending))
    (crew : List (View B)) (jobs : List (Job B)) (v : View B) (count : ℕ) (handed : Option (List Origin)) (given : Option (List Ending)) : Type 0 where
  pub hs : List (Option Origin)
  pub cs : List Ending
  pub spans : List Span
  pub handed_out : HandsOutAll h0 hs handed
  pub given_back : AddsAll g0 cs given
  pub counted : length hs ≡ count
  pub serving : IsServing Serves n v0 (out_of jobs) v hs cs spans
  -- v has the number of v0, and all those that were met into it
  pub first : v0.number ≡ Some n
  pub since : (m : ℕ) → In m (numbers_of v0) → In m (numbers_of v)
  -- the numbers of the passes of workers that are over, and of those whose thread wasn't started
  pub workers : List ℕ
  pub spared : List ℕ
  pub are_workers : AreWorkers (numbers_of v0) (numbers_of v) spans workers
  pub hired : (length workers + length crew) + idle ≡ asked
  pub few : length spared ≤ idle
  pub all : AreAll (numbers_of v0) (numbers_of v) spans workers spared
  pub covering : IsCovering (IsOfWorker (Some n) idle workers spared) v0 v spans
  pub begun : AllBegun v0 (views_of jobs ++ crew)
  pub shared : IsShared v0 v (views_of jobs ++ crew)
