mod Margins
