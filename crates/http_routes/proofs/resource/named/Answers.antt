use Rattle.std.proofs.Common.{◌≡◌, ◌∙◌, ℕ, List, [], map, length, get_or, sym, subst, arith}
use Rattle.std.specs.Prelude.{MatchOption}
use Rattle.std.proofs.lemmas.List.{length-map}
use Rattle.http_routes.specs.Paths.{Names, NamesNothing}
use Rattle.http_routes.specs.Views.{resource_of, now_of}
use Rattle.http_routes.proofs.Nothing.{made_three, made_four, made_five, made_six, made_seven, made_eight, empty_of, some_of, nothing_rootless}
use Rattle.http_routes.proofs.resource.named.Goals as goal

pub returns-in-5-clause-names : goal.returns-in-5-clause-names
returns-in-5-clause-names g c =
    let ss = map now_of c.args.parts.now in
    let count : length ss ≡ 5 = let e = length-map c.args.parts.now now_of in omega (arith, e, c.in-5.is) in
    let root : get_or ss 0 [] ≡ [] = sym c.part.ensures ∙ empty_of c.part.result.now c.if-not-is_empty.ensures in
    subst (λ (ts : List (List ℕ)). MatchOption c.everywhere_at.result (NamesNothing (g.V.Versions.meaning c.args.versions.now) ts) (λ r. Names (g.V.Versions.meaning c.args.versions.now) ts (resource_of r)))
    (made_five ss c.part-in-5.result.now c.part-in-5-2.result.now c.part-in-5-3.result.now c.part-in-5-4.result.now count root c.part-in-5.ensures c.part-in-5-2.ensures c.part-in-5-3.ensures c.part-in-5-4.ensures)
    c.everywhere_at.ensures.names

pub returns-in-6-clause-names : goal.returns-in-6-clause-names
returns-in-6-clause-names g c =
    let ss = map now_of c.args.parts.now in
    let count : length ss ≡ 6 = let e = length-map c.args.parts.now now_of in omega (arith, e, c.in-6.is) in
    let root : get_or ss 0 [] ≡ [] = sym c.part.ensures ∙ empty_of c.part.result.now c.if-not-is_empty.ensures in
    subst (λ (ts : List (List ℕ)). MatchOption c.crd_at.result (NamesNothing (g.V.Versions.meaning c.args.versions.now) ts) (λ r. Names (g.V.Versions.meaning c.args.versions.now) ts (resource_of r)))
    (made_six ss c.part-in-6.result.now c.part-in-6-2.result.now c.part-in-6-3.result.now c.part-in-6-4.result.now c.part-in-6-5.result.now count root c.part-in-6.ensures c.part-in-6-2.ensures c.part-in-6-3.ensures c.part-in-6-4.ensures c.part-in-6-5.ensures)
    c.crd_at.ensures.names

pub returns-in-7-clause-names : goal.returns-in-7-clause-names
returns-in-7-clause-names g c =
    let ss = map now_of c.args.parts.now in
    let count : length ss ≡ 7 = let e = length-map c.args.parts.now now_of in omega (arith, e, c.in-7.is) in
    let root : get_or ss 0 [] ≡ [] = sym c.part.ensures ∙ empty_of c.part.result.now c.if-not-is_empty.ensures in
    subst (λ (ts : List (List ℕ)). MatchOption c.collection_at.result (NamesNothing (g.V.Versions.meaning c.args.versions.now) ts) (λ r. Names (g.V.Versions.meaning c.args.versions.now) ts (resource_of r)))
    (made_seven ss c.part-in-7.result.now c.part-in-7-2.result.now c.part-in-7-3.result.now c.part-in-7-4.result.now c.part-in-7-5.result.now c.part-in-7-6.result.now count root c.part-in-7.ensures c.part-in-7-2.ensures c.part-in-7-3.ensures c.part-in-7-4.ensures c.part-in-7-5.ensures c.part-in-7-6.ensures)
    c.collection_at.ensures.names

pub returns-in-8-clause-names : goal.returns-in-8-clause-names
returns-in-8-clause-names g c =
    let ss = map now_of c.args.parts.now in
    let count : length ss ≡ 8 = let e = length-map c.args.parts.now now_of in omega (arith, e, c.in-8.is) in
    let root : get_or ss 0 [] ≡ [] = sym c.part.ensures ∙ empty_of c.part.result.now c.if-not-is_empty.ensures in
    subst (λ (ts : List (List ℕ)). MatchOption c.object_at.result (NamesNothing (g.V.Versions.meaning c.args.versions.now) ts) (λ r. Names (g.V.Versions.meaning c.args.versions.now) ts (resource_of r)))
    (made_eight ss c.part-in-8.result.now c.part-in-8-2.result.now c.part-in-8-3.result.now c.part-in-8-4.result.now c.part-in-8-5.result.now c.part-in-8-6.result.now c.part-in-8-7.result.now count root c.part-in-8.ensures c.part-in-8-2.ensures c.part-in-8-3.ensures c.part-in-8-4.ensures c.part-in-8-5.ensures c.part-in-8-6.ensures c.part-in-8-7.ensures)
    c.object_at.ensures.names

pub returns-in-3-clause-names : goal.returns-in-3-clause-names
returns-in-3-clause-names g c =
    let ss = map now_of c.args.parts.now in
    let count : length ss ≡ 3 = let e = length-map c.args.parts.now now_of in omega (arith, e, c.in-3.is) in
    let root : get_or ss 0 [] ≡ [] = sym c.part.ensures ∙ empty_of c.part.result.now c.if-not-is_empty.ensures in
    subst (λ (ts : List (List ℕ)). MatchOption c.group_at.result (NamesNothing (g.V.Versions.meaning c.args.versions.now) ts) (λ r. Names (g.V.Versions.meaning c.args.versions.now) ts (resource_of r)))
    (made_three ss c.part-in-3.result.now c.part-in-3-2.result.now count root c.part-in-3.ensures c.part-in-3-2.ensures)
    c.group_at.ensures.names

pub returns-in-4-clause-names : goal.returns-in-4-clause-names
returns-in-4-clause-names g c =
    let ss = map now_of c.args.parts.now in
    let count : length ss ≡ 4 = let e = length-map c.args.parts.now now_of in omega (arith, e, c.in-4.is) in
    let root : get_or ss 0 [] ≡ [] = sym c.part.ensures ∙ empty_of c.part.result.now c.if-not-is_empty.ensures in
    subst (λ (ts : List (List ℕ)). MatchOption c.raw_at.result (NamesNothing (g.V.Versions.meaning c.args.versions.now) ts) (λ r. Names (g.V.Versions.meaning c.args.versions.now) ts (resource_of r)))
    (made_four ss c.part-in-4.result.now c.part-in-4-2.result.now c.part-in-4-3.result.now count root c.part-in-4.ensures c.part-in-4-2.ensures c.part-in-4-3.ensures)
    c.raw_at.ensures.names

pub returns-in-3-clause-fits : goal.returns-in-3-clause-fits
returns-in-3-clause-fits g c = c.group_at.ensures.fits

pub returns-in-4-clause-fits : goal.returns-in-4-clause-fits
returns-in-4-clause-fits g c = c.raw_at.ensures.fits

pub returns-in-5-clause-fits : goal.returns-in-5-clause-fits
returns-in-5-clause-fits g c = c.everywhere_at.ensures.fits

pub returns-in-6-clause-fits : goal.returns-in-6-clause-fits
returns-in-6-clause-fits g c = c.crd_at.ensures.fits

pub returns-in-7-clause-fits : goal.returns-in-7-clause-fits
returns-in-7-clause-fits g c = c.collection_at.ensures.fits

pub returns-in-8-clause-fits : goal.returns-in-8-clause-fits
returns-in-8-clause-fits g c = c.object_at.ensures.fits

pub returns-then-not-is_empty-clause-names : goal.returns-then-not-is_empty-clause-names
returns-then-not-is_empty-clause-names g c =
    nothing_rootless (g.V.Versions.meaning c.args.versions.now) (map now_of c.args.parts.now) (λ e. some_of c.part.result.now c.if-not-is_empty.ensures (c.part.ensures ∙ e))
