use Rattle.std.proofs.lemmas.Cmp.{nat_cmp_total, on_total, then_total, back_total, nat_list_cmp_total}
use Rattle.std.specs.Cmp.{IsTotalOrder}
use Rattle.std.proofs.Common.{length}
use Rattle.api_calls.specs.Priority.{Version, number_cmp, version_cmp, version_of}
use Rattle.api_calls.proofs.ranking.priority_total.Goals as goal

numbers_total : IsTotalOrder number_cmp
numbers_total = then_total (on_total length nat_cmp_total) nat_list_cmp_total

versions_total : IsTotalOrder version_cmp
versions_total =
    then_total (on_total (λ (v : Version). v.stage) nat_cmp_total)
    (then_total (back_total (on_total (λ (v : Version). v.major) numbers_total)) (back_total (on_total (λ (v : Version). v.minor) numbers_total)))

pub returns : goal.returns
returns c = then_total (on_total version_of versions_total) nat_list_cmp_total
