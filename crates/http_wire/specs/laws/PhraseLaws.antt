-- The codes in use have canonical phrases.
use Rattle.std.specs.Prelude.{refl}
use Rattle.std.proofs.Common.{lit≤, lit<}
use Rattle.http_wire.specs.Response.{HasPhrase}

pub phrase-200 : HasPhrase 200
unfolding HasPhrase
phrase-200 = ((lit≤ tt, lit< tt), refl)

pub phrase-201 : HasPhrase 201
unfolding HasPhrase
phrase-201 = ((lit≤ tt, lit< tt), refl)

pub phrase-400 : HasPhrase 400
unfolding HasPhrase
phrase-400 = ((lit≤ tt, lit< tt), refl)

pub phrase-404 : HasPhrase 404
unfolding HasPhrase
phrase-404 = ((lit≤ tt, lit< tt), refl)

pub phrase-405 : HasPhrase 405
unfolding HasPhrase
phrase-405 = ((lit≤ tt, lit< tt), refl)

pub phrase-409 : HasPhrase 409
unfolding HasPhrase
phrase-409 = ((lit≤ tt, lit< tt), refl)

pub phrase-410 : HasPhrase 410
unfolding HasPhrase
phrase-410 = ((lit≤ tt, lit< tt), refl)

pub phrase-411 : HasPhrase 411
unfolding HasPhrase
phrase-411 = ((lit≤ tt, lit< tt), refl)

pub phrase-413 : HasPhrase 413
unfolding HasPhrase
phrase-413 = ((lit≤ tt, lit< tt), refl)

pub phrase-422 : HasPhrase 422
unfolding HasPhrase
phrase-422 = ((lit≤ tt, lit< tt), refl)

pub phrase-431 : HasPhrase 431
unfolding HasPhrase
phrase-431 = ((lit≤ tt, lit< tt), refl)

pub phrase-501 : HasPhrase 501
unfolding HasPhrase
phrase-501 = ((lit≤ tt, lit< tt), refl)

pub phrase-502 : HasPhrase 502
unfolding HasPhrase
phrase-502 = ((lit≤ tt, lit< tt), refl)

pub phrase-503 : HasPhrase 503
unfolding HasPhrase
phrase-503 = ((lit≤ tt, lit< tt), refl)

pub phrase-507 : HasPhrase 507
unfolding HasPhrase
phrase-507 = ((lit≤ tt, lit< tt), refl)

pub ruleset phrases = (phrase-200, phrase-201, phrase-400, phrase-404, phrase-405, phrase-409, phrase-410, phrase-411, phrase-413, phrase-422, phrase-431, phrase-501, phrase-502, phrase-503, phrase-507)
