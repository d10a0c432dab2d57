-- For private clauses: the kind of a key, the side that an object stands on, and what becomes of an annotation.
use Rattle.std.specs.Prelude.{◌≡◌, Option, None, Some}
use Rattle.std.specs.Borrow.{Bor}
use Rattle.kj_value.specs.Fields.{Pairs}
use Rattle.kube_meta.specs.View.{Texts}
use Rattle.hub_cells.specs.Level.{Name}
use Rattle.keep_laws.specs.Spokes.{Spoke, Spokes}
use Rattle.keep_laws.specs.Keys.{KeyKind, plain, of_hub, of_spoke, of_none, key_kind}
use Rattle.keep_laws.specs.Notes.{with_note}
use Rattle.keep_laws.specs.Judging.{OtherNote}
use Rattle.spoke_keep.specs.declared.keys.Kind.{Kind}
use Rattle.spoke_keep.specs.declared.keys.Kind.TheVariants.{Plain, Hub, OfSpoke, NoSpoke}
use Rattle.spoke_keep.specs.declared.carrying.Fate.{Fate}
use Rattle.spoke_keep.specs.declared.carrying.Fate.TheVariants.{Stays, Becomes, Goes}

abbrev pub kind_seen : Kind → KeyKind
kind_seen Plain = plain
kind_seen Hub = of_hub
kind_seen (OfSpoke s) = of_spoke s.now
kind_seen NoSpoke = of_none

abbrev pub kind_found : Option (Bor Spoke) → KeyKind
kind_found None = of_none
kind_found (Some s) = of_spoke s.now

abbrev pub own_name : Option (Bor Spoke) → Option Name
own_name None = None
own_name (Some s) = Some s.now.name

-- what an annotation t becomes
abbrev pub fate_note : Name → Fate → Option Name
fate_note t Stays = Some t
fate_note t (Becomes u) = Some u.bytes
fate_note t Goes = None

-- the annotation t at the key k is carried along: beside the annotations before there is what it becomes
pub record IsCarried (all : Spokes) (own : Option Name) (body : Pairs) (k t : Name) (before after : Texts) : Type 0 where
  pub note : Option Name
  pub is : OtherNote own body (key_kind all k) (Some t) note
  pub put : after ≡ with_note k note before
