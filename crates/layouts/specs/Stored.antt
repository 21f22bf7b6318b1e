-- The layout of the store: records of six words in one chain (Buffer.antt, Chains.antt).
use Rattle.layouts.specs.Buffer.{capacity_of, is_store, tuples_of, free_of, past_records, Prepared}
use Rattle.layouts.specs.Chains.{IsStore}
use Rattle.model.specs.Layouts.{Layout}

abbrev pub stored : Layout
stored =
    record {
      capacity_of = capacity_of;
      is_store = is_store;
      IsStore = IsStore;
      state_of = tuples_of;
      free_of = free_of;
      past_records = past_records;
      Prepared = Prepared;
    }
