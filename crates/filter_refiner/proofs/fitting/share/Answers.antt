-- By the lemma on shares the product of an error and a value fits, and so does its whole part.
use Rattle.filter_refiner.proofs.Fitted.{share-is}
use Rattle.filter_refiner.proofs.fitting.share.Goals as goal

pub overflow_mul-result : goal.overflow_mul-result
overflow_mul-result c = (share-is c.args.error c.args.value c.requires.error c.requires.value).0

pub returns-clause-share : goal.returns-clause-share
returns-clause-share c = (share-is c.args.error c.args.value c.requires.error c.requires.value).1

pub returns-clause-most : goal.returns-clause-most
returns-clause-most c = (share-is c.args.error c.args.value c.requires.error c.requires.value).2
