-- The lemmas that the check applies by itself where a function names a set of them. Assumes nothing.
use Rattle.sets.proofs.laws.Any.{all_start, all_more}
use Rattle.sets.proofs.laws.Least.{lowest_of_start, lowest_of_on}
use Rattle.lists.specs.laws.Tab.{filled_none, filled_more}
use Rattle.network.specs.laws.Faults.{fault_22, fault_23, fault_24, fault_25, fault_26, fault_none, verdict_none, clean_more}
use Rattle.network.specs.laws.Layout.{filled_end, stored_none, stored_more}
use Rattle.network.specs.laws.Listing.{list_2, list_4, list_0}
use Rattle.network.specs.laws.RuleLaws.{detail_lt}
use Rattle.network.proofs.RowWords.{bad_is, table_is}
use Rattle.network.proofs.Tests.{own_kept, near_kept, near_broken, back_tested, known_tested}

-- a loop that fills an array from the front
pub ruleset filling = (filled_none, filled_more, filled_end)

-- one that stores a row
pub ruleset storing = (stored_none, stored_more)

-- one that asks all of them
pub ruleset asking = (all_start, all_more)

-- one that looks for the lowest
pub ruleset looking = (lowest_of_start, lowest_of_on)

-- the first rule that a present record breaks, by what the tests say
pub ruleset testing = (own_kept, near_kept, near_broken, back_tested, known_tested, fault_22, fault_23, fault_24, fault_25, fault_26, fault_none)

-- the loop over the records
pub ruleset judging = (verdict_none, clean_more, detail_lt)

-- the message table
pub ruleset listing = (list_2, list_4, list_0, bad_is, table_is)
