use Rattle.std.proofs.Common.{◌≡◌, Option, Some, None, Bor, option_map, refl, sym, ap, ◌∙◌}
use Rattle.std.specs.Option.{option_copied}
use Rattle.kj_value.specs.Txt.{Bytes}
use Rattle.form_cache.specs.Forms.{forms_of}
use Rattle.form_cache.specs.View.{shown}
use Rattle.form_cache.proofs.Shown.{used-promoted, text-shown}
use Rattle.form_cache.proofs.cache.FormCache.find.Goals as goal

bytes-copied : (r : Option (Bor Bytes)) → option_map (λ t. t.now.bytes) r ≡ option_map (λ (b : Bytes). b.bytes) (option_copied r)
bytes-copied None = refl
bytes-copied (Some t) = refl

pub returns : goal.returns
returns c =
    let es = c.self.inside.forms.entries in let cap = c.self.inside.forms.cap in
    rw (← c.self.view_is) (
      (refl, λ _. tt, ap (λ x. forms_of (shown x.entries) x.cap) c.get.follows.holds-at-none ∙ ap (λ fs. forms_of fs cap) (sym (used-promoted c.args.key.now c.args.number c.args.version es))),
      record { brings = tt; text = bytes-copied c.get.result ∙ ap (λ o. option_map (λ (b : Bytes). b.bytes) o) c.get.ensures.value ∙ sym (text-shown c.args.key.now c.args.number c.args.version es) },
    )
