pub mod FrontSizes
