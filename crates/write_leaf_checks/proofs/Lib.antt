pub mod LeafVerdicts
