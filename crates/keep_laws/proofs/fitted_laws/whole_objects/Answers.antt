use Rattle.keep_laws.proofs.Fitted.{whole_object, object_whole}
use Rattle.keep_laws.proofs.fitted_laws.whole_objects.Goals as goal

pub returns : goal.returns
returns c = record {
  means = whole_object;
  back = object_whole;
}
