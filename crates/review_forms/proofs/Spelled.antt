-- The text of a request in pieces.
use Rattle.std.proofs.Common.{◌≡◌, ℕ, List, [], ◌++◌, refl, ◌∙◌, append_assoc}
use Rattle.std.proofs.lemmas.List.{append-nil}
use Rattle.std.specs.Prelude.{codes}
use Rattle.kj_value.specs.Json.{items_of}
use Rattle.kj_value.specs.Text.{text_of, items_text, quoted}
use Rattle.review_forms.specs.Form.{review_version, review_kind}
use Rattle.review_forms.specs.Request.{RequestView, request_document}
use Rattle.review_forms.specs.Spelling.{request_front, request_middle, request_end, review_end}

request_laid : (r : RequestView)
    → text_of (request_document r)
    ≡ request_front ++ (((quoted r.desired ++ (codes ",\"objects\":[" ++ ((items_text (items_of r.objects) ++ codes "]") ++ (codes ",\"uid\":" ++ (quoted r.uid ++ []))))) ++ codes "}") ++ []) ++ codes "}"
unfolding request_front review_version review_kind
request_laid r = refl

request_arranged : (a d o i b c u e : List ℕ) → a ++ (((d ++ (o ++ ((i ++ b) ++ (c ++ (u ++ []))))) ++ e) ++ []) ++ e ≡ (((((a ++ d) ++ o) ++ i) ++ (b ++ c)) ++ u) ++ (e ++ e)
request_arranged a d o i b c u e = simp (append_assoc, append-nil)

pub request-text : (r : RequestView)
    → text_of (request_document r)
    ≡ (((((request_front ++ quoted r.desired) ++ request_middle) ++ items_text (items_of r.objects)) ++ request_end) ++ quoted r.uid) ++ review_end
unfolding request_middle request_end review_end
request-text r =
    request_laid r
    ∙ request_arranged request_front (quoted r.desired) (codes ",\"objects\":[") (items_text (items_of r.objects)) (codes "]") (codes ",\"uid\":") (quoted r.uid) (codes "}")
