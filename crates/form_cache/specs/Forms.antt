-- What a cache of forms is seen as: the forms that it holds, the last used first, and how many it holds at most.
use Rattle.std.specs.Prelude.{ℕ, ◌-◌, Bool, cond, ◌==◌, ◌&&◌, List, [], ◌∷◌, take, Option, Some, None, bytes_eq}
use Rattle.kube_meta.specs.Key.{KeyView}

-- the text that shows the object of this key, as it stood at this number, at the version at this place
pub record Form : Type 0 where
  pub key : KeyView
  pub number : ℕ
  pub version : ℕ
  pub text : List ℕ

pub record Forms : Type 0 where
  pub forms : List Form
  pub most : ℕ

abbrev pub forms_of : List Form → ℕ → Forms
forms_of fs most = record { forms = fs; most = most }

-- of two names of forms, that they are one
abbrev pub same_form : KeyView → ℕ → ℕ → KeyView → ℕ → ℕ → Bool
same_form k n v l m w = (n == m) && (v == w) && bytes_eq k.name l.name && bytes_eq k.ns l.ns

-- of a form, that it shows the object of this key at this number and version
abbrev pub shows : KeyView → ℕ → ℕ → Form → Bool
shows k n v f = same_form k n v f.key f.number f.version

module _ (passes : Form → Bool) where
  -- the first form that passes
  abbrev pub found : List Form → Option Form
  found [] = None
  found (f ∷ fs) = cond (passes f) (Some f) (found fs)

  -- without the first form that passes
  abbrev pub without : List Form → List Form
  without [] = []
  without (f ∷ fs) = cond (passes f) fs (f ∷ without fs)

-- the form that was found goes first
abbrev pub in_front : Option Form → List Form → List Form → List Form
in_front None rest fs = fs
in_front (Some f) rest fs = f ∷ rest

-- after the form of this key, number and version was used
abbrev pub used : KeyView → ℕ → ℕ → List Form → List Form
used k n v fs = in_front (found (shows k n v) fs) (without (shows k n v) fs) fs

-- what stays beside a form that is kept: all but the form of the same key, number and version, or, where there is none, all that leave room for one
abbrev pub beside : Option Form → List Form → List Form → List Form
beside None rest fitting = fitting
beside (Some f) rest fitting = rest

-- after this form was kept
abbrev pub kept : Form → Forms → List Form
kept f c = f ∷ beside (found (shows f.key f.number f.version) c.forms) (without (shows f.key f.number f.version) c.forms) (take (c.most - 1) c.forms)
