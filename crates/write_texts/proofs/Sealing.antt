-- A text that is sealed, by the parts of the text of its document.
use Rattle.std.proofs.Common.{◌≡◌, ℕ, ◌+◌, ◌≤◌, List, [], ◌∷◌, ◌++◌, length, sym, ◌∙◌, append_assoc}
use Rattle.std.specs.Prelude.{decimal}
use Rattle.kj_value.specs.Characters.{quote}
use Rattle.kube_meta.specs.View.{ObjectView}
use Rattle.api_calls.specs.Uid.{uid}
use Rattle.document_text.specs.Numbered.{AreParts, between, number_name}
use Rattle.call_texts.proofs.AsItStands.{number_as_it_stands, uid_as_it_stands}
use Rattle.write_texts.specs.Sealed.{IsSealed}
use Rattle.write_texts.specs.declared.seal.Sealed.{Sealed}

-- what is put together from the parts is sealed
pub sealed : (x : ObjectView) (known comma rest : List ℕ) (s : Sealed) → AreParts x known comma rest
    → s.front.bytes ≡ (known ++ comma) ++ number_name → s.back.bytes ≡ quote ∷ rest → 65 + length s.back.bytes ≤ s.front.room → IsSealed x s
sealed x known comma rest s parts front back room =
    record {
      room = room;
      shows = λ boot number born small.
          let n : List ℕ = decimal number in
          let u : List ℕ = uid boot born in
          sym (parts n u (number_as_it_stands number small) (uid_as_it_stands boot born))
          ∙ append_assoc (((((known ++ comma) ++ number_name) ++ n) ++ between) ++ u) (quote ∷ []) rest
          ∙ (λ i. (((sym front i ++ n) ++ between) ++ u) ++ sym back i);
    }
