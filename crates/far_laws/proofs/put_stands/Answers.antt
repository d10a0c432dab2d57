use Rattle.api_calls.proofs.Sound.{sound-all}
use Rattle.wire_client.specs.Calls.{puts}
use Rattle.far_laws.proofs.Decided.{put_stands}
use Rattle.far_laws.proofs.put_stands.Goals as goal

pub returns : goal.returns
returns g c = λ it limits boot far n log own key j k valid l behind a.
    let m = g.V.Versions.meaning it in
    put_stands (record { meaning = m; limits = limits; boot = boot }) n log own key j k (sound-all m limits log l) (behind.gives (puts key j) valid log own k a)
