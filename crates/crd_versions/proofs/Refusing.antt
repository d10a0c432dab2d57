-- A fault of the hub value is a fault of the request.
use Rattle.std.proofs.Common.{◌≡◌, ℕ, Option}
use Rattle.kube_meta.specs.View.{ObjectView}
use Rattle.api_calls.specs.Meaning.{Request, Fault}
use Rattle.crd_meaning.specs.Definition.{Definition}
use Rattle.crd_meaning.specs.Admission.{Passes}
use Rattle.crd_meaning.specs.Refusal.{RefusesRequest, badly_kept, too_large}
use Rattle.crd_admission.specs.NoHub.{HasNoHub, unread, heavy}

pub no_hub : (d : Definition) (r : Request) (x : ObjectView) (e : Option ℕ) → Passes d r x e → (f : Fault) → HasNoHub d r.version x f → RefusesRequest d r f
no_hub d r x e p f (unread b) =
    badly_kept (record { object = x; number = e; passes = p; key = b.key; unread = b.unread; told = b.told })
no_hub d r x e p f (heavy b) =
    too_large (record { object = x; number = e; passes = p; read = b.read; large = b.large; told = b.told })
