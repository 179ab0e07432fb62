pub mod Addresses
pub mod NumberLaws
pub mod NumberedLaws
pub mod QuickOrders
pub mod SoaValues
pub mod TextLists
pub mod TextOrders
pub mod TokensBack
