-- By the lemma on parts the product of a growth and a value has a whole part that fits.
use Rattle.filter_refiner.proofs.Growing.{part-is}
use Rattle.filter_refiner.proofs.solving.part.Goals as goal

pub returns-clause-part : goal.returns-clause-part
returns-clause-part c = (part-is c.args.growth c.args.value c.product.result c.requires.growth c.requires.value c.product.ensures).0

pub returns-clause-most : goal.returns-clause-most
returns-clause-most c = (part-is c.args.growth c.args.value c.product.result c.requires.growth c.requires.value c.product.ensures).1
