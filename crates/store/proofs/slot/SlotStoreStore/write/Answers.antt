-- What the search leaves to show of `SlotStore::write`.
use Rattle.std.proofs.Common.{◌≡◌, length, rules}
use Rattle.settings.specs.Settings.{place_count}
use Rattle.store.proofs.Meaning.{list_written}
use Rattle.store.proofs.slot.SlotStoreStore.write.Goals as goal

pub returns : goal.returns
returns c =
    let long : length c.args.self.now.rows ≡ place_count = search rules in
    record { places = list_written c.args.self.now.rows c.args.place.at c.from.result c.args.row.now c.args.place.bound long c.from.ensures }
