pub mod TextLemmas
pub mod ItemLemmas
pub mod ItemParts
pub mod KeyItems
