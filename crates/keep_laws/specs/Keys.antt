-- The keys of the annotations in which a version keeps what it can't hold.
use Rattle.std.specs.Prelude.{◌++◌, List, [], ◌∷◌, codes, nat_eq, if◌then◌else◌}
use Rattle.std.specs.Str.{bytes_eq}
use Rattle.std.specs.List.{starts_with}
use Rattle.hub_cells.specs.Level.{Name}
use Rattle.keep_laws.specs.Spokes.{Spoke, Spokes}

-- on a spoke's object: what the hub has and this spoke can't hold
unfoldable pub hub_key : Name
hub_key = codes "hub.kubeconv.local/kept"

unfoldable pub spoke_prefix : Name
spoke_prefix = codes "spoke.kubeconv.local/"

-- on the hub's object: what the spoke of this name has and the hub can't hold. Other spokes' objects carry it along
abbrev pub spoke_key : Name → Name
spoke_key name = spoke_prefix ++ name

-- whose annotation a key is of: of the hub, of a spoke, of no spoke that is known, or anyone else's
pub data KeyKind : Type 0 where
  plain : KeyKind
  of_hub : KeyKind
  of_spoke : Spoke → KeyKind
  of_none : KeyKind

abbrev pub kind_among : Name → List Spoke → KeyKind
kind_among k [] = of_none
kind_among k (s ∷ ss) = if bytes_eq k (spoke_key s.name) then of_spoke s else kind_among k ss

-- a key with the spokes' prefix and any other name behind it, the hub's too, is of no known spoke
abbrev pub key_kind : Spokes → Name → KeyKind
key_kind all k =
    if bytes_eq k hub_key then of_hub else (if starts_with nat_eq k spoke_prefix then kind_among k all.items else plain)
