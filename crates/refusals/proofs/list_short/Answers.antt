use Rattle.listings.proofs.Asked.{surely_not_short}
use Rattle.listings.proofs.Stores.{store_readable}
use Rattle.edit.proofs.Built.{store_linked}
use Rattle.refusals.proofs.list_short.Goals as goal

pub surely_fits-requires : goal.surely_fits-requires
surely_fits-requires c = search store_linked

pub returns-then-surely_fits : goal.returns-then-surely_fits
returns-then-surely_fits c = search surely_not_short

pub count_listed-requires : goal.count_listed-requires
count_listed-requires c = search store_readable
