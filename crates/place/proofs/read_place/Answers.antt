use Rattle.std.proofs.Common.{◌≡◌, subst}
use Rattle.http_address.specs.Address.{IsAddress, AddressView, OnBadAddress}
use Rattle.http_address.specs.declared.AddressFault.{AddressFault}
use Rattle.http_address.specs.declared.AddressFault.TheVariants.{BadAddress}
use Rattle.place.proofs.Addresses.{no_place}
use Rattle.place.proofs.read_place.Goals as goal

pub returns-in-Err-BadAddress-clause-err : goal.returns-in-Err-BadAddress-clause-err
returns-in-Err-BadAddress-clause-err c p is =
    let bad : c.in-Err-BadAddress.field-0 ≡ BadAddress = cc (c.in-Err-BadAddress.is, c.in-Err-BadAddress.field-0-is) in
    let none : (a : AddressView) → IsAddress c.args.text.now a → ⊥
    = subst (λ (fault : AddressFault). OnBadAddress ((a : AddressView) → IsAddress c.args.text.now a → ⊥) fault) bad c.in-Err-BadAddress.ensures.err in
    no_place c.args.text.now p none is
