pub mod FootprintsInOrder
